-- The slots that the words of a trial tell.
--   assignment w        NAME=NUMBER: the code of the variable, and the number
--   listed xs ws        the numbers that the words write, behind xs
--   named ns s ws       the slots s, with each variable that the words name at its number
--   slots_of ns m ws    the slots that the words tell, for the nodes up to m
use Rattle.std.specs.Prelude.{ℕ, ◌+◌, min, cond, List, [], ◌∷◌, ◌++◌, length, take, drop, replicate, Some, None, codes, Option, slice_set}
use Rattle.std.specs.Str.{bytes_eq}
use Rattle.sheet.specs.declared.node.Node.{Node}
use Rattle.sheet.specs.declared.node.Node.TheVariants as node
use Rattle.sheet.specs.Nodes.{find}
use Rattle.reader.specs.Names.{variable_code}
use Rattle.text.specs.Words.{reach, numeral, both}

-- the number behind the =
abbrev pub worth : List ℕ → Option ℕ
worth [] = None
worth (b ∷ digits) = numeral digits

abbrev pub assignment : List ℕ → Option (ℕ × ℕ)
assignment w = both (variable_code (take (reach 61 w) w)) (worth (drop (reach 61 w) w))

-- the slots s with x in the slot of a node that there is
abbrev pub placed : Option ℕ → ℕ → List ℕ → List ℕ
placed None x s = s
placed (Some k) x s = slice_set s k x

abbrev pub assigned : List Node → List ℕ → Option (ℕ × ℕ) → Option (List ℕ)
assigned ns s None = None
assigned ns s (Some p) = Some (placed (find ns (node.Variable p.0)) p.1 s)

abbrev pub follow : {A B : Type 0} → Option A → (A → Option B) → Option B
follow None f = None
follow (Some a) f = f a

abbrev pub listed : List ℕ → List (List ℕ) → Option (List ℕ)
listed xs [] = Some xs
listed xs (w ∷ ws) = follow (numeral w) (λ n. listed (xs ++ n ∷ []) ws)

abbrev pub named : List Node → List ℕ → List (List ℕ) → Option (List ℕ)
named ns s [] = Some s
named ns s (w ∷ ws) = follow (assigned ns s (assignment w)) (λ t. named ns t ws)

-- how many of the nodes are numbered up to m
abbrev pub up_to : List Node → ℕ → ℕ
up_to ns m = min (m + 1) (length ns)

-- numbers; or, behind `with`, variables by name, the other slots 0
abbrev pub slots_of : List Node → ℕ → List (List ℕ) → Option (List ℕ)
slots_of ns m [] = Some []
slots_of ns m (w ∷ ws) = cond (bytes_eq w (codes "with")) (named ns (replicate (up_to ns m) 0) ws) (listed [] (w ∷ ws))
