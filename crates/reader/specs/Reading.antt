-- How a text is read from left to right: the answer, the nodes after it, and the offset that is reached.
--   ended r ns at       the answer r came, with the nodes ns, at the offset `at`
--   bind o f            f goes on where o was granted; a fault ends all
--   due text ns at f    f takes the next token, which must be there
--   enter_at n p        the node n is entered, as a part that begins at p
--   read_sign           the sign of a list
--   add_part            one more part of a list is joined, or met, to what the list holds
--   read_parts, read_list, read_term, read_end, read_whole     the parts of a list, a list, a term, the end of the text, a text
--   reading S text      the sheet S after the text was read, and the answer
use Rattle.std.specs.Prelude.{ℕ, zero, suc, ◌<◌, ◌≤◌, Bool, true, false, cond, List, length, drop, Some, None, Ok, Err, Option, Result}
use Rattle.sheet.specs.declared.node.Node.{Node}
use Rattle.sheet.specs.declared.node.Node.TheVariants as node
use Rattle.sheet.specs.Nodes.{find}
use Rattle.refused.specs.Refused.{Refused}
use Rattle.sheet.specs.Enter.{numbered, grown}
use Rattle.sheet.specs.State.{State}
use Rattle.reader.specs.declared.token.Kind.{Kind}
use Rattle.reader.specs.declared.token.Kind.TheVariants.{Open, Close, Plus, Star, Variable}
use Rattle.reader.specs.declared.token.Token.{Token}
use Rattle.reader.specs.declared.reader.Sign.{Sign}
use Rattle.reader.specs.declared.reader.Sign.TheVariants as sign
use Rattle.reader.specs.declared.reader.Held.{Held}
use Rattle.reader.specs.declared.reader.Held.TheVariants.{Nothing, One, Several}
use Rattle.reader.specs.Faults.{Row, by_reader, by_sheet}
use Rattle.reader.specs.Cutting.{cut, behind}

pub data Outcome (A : Type 0) : Type 0 where
  ended : Result A Row → List Node → ℕ → Outcome A

abbrev pub bind : {A B : Type 0} → Outcome A → (A → List Node → ℕ → Outcome B) → Outcome B
bind (ended (Ok a) ns at) f = f a ns at
bind (ended (Err e) ns at) f = ended (Err e) ns at

-- the reader finds fault n at the place p
abbrev pub refuse : {A : Type 0} → ℕ → ℕ → List Node → ℕ → Outcome A
refuse n p ns at = ended (Err (by_reader n p)) ns at

abbrev pub next : List ℕ → List Node → ℕ → Outcome (Option Token)
next text ns at = ended (cut at (drop at text)) ns (behind at (drop at text))

abbrev pub or_end : {A : Type 0} → Option Token → Outcome A → (Token → Outcome A) → Outcome A
or_end None o f = o
or_end (Some t) o f = f t

-- fault 3, at the text's length, where the text has ended
abbrev pub due : {A : Type 0} → List ℕ → List Node → ℕ → (Token → List Node → ℕ → Outcome A) → Outcome A
due text ns at f = bind (next text ns at) (λ o ns' at'. or_end o (refuse 3 (length text) ns' at') (λ t. f t ns' at'))

-- a refusal of the sheet becomes a fault with the same number, at the place p
abbrev pub placed_at : ℕ → Result ℕ Refused → Result ℕ Row
placed_at p (Ok k) = Ok k
placed_at p (Err f) = Err (by_sheet f.number p)

-- the node's code or its parts are there: only room may lack
abbrev pub enter_at : Node → ℕ → List Node → ℕ → Outcome ℕ
enter_at n p ns at = ended (placed_at p (numbered ns (find ns n))) (grown ns n (find ns n)) at

-- fault 4 where another token stands
abbrev pub sign_of : Token → List Node → ℕ → Kind → Outcome Sign
sign_of t ns at Plus = ended (Ok sign.Join) ns at
sign_of t ns at Star = ended (Ok sign.Meet) ns at
sign_of t ns at Open = refuse 4 t.place ns at
sign_of t ns at Close = refuse 4 t.place ns at
sign_of t ns at (Variable c) = refuse 4 t.place ns at

abbrev pub read_sign : List ℕ → List Node → ℕ → Outcome Sign
read_sign text ns at = due text ns at (λ t ns' at'. sign_of t ns' at' t.kind)

abbrev pub pair : Sign → ℕ → ℕ → Node
pair sign.Meet a b = node.Meet a b
pair sign.Join a b = node.Join a b

abbrev pub several : Outcome ℕ → Outcome Held
several o = bind o (λ k ns at. ended (Ok (Several k)) ns at)

-- the part begins at p
abbrev pub add_part : Sign → Held → ℕ → ℕ → List Node → ℕ → Outcome Held
add_part s Nothing part p ns at = ended (Ok (One part)) ns at
add_part s (One whole) part p ns at = several (enter_at (pair s whole part) p ns at)
add_part s (Several whole) part p ns at = several (enter_at (pair s whole part) p ns at)

-- fault 6 where the list holds fewer than two terms
abbrev pub close_list : Held → ℕ → Result ℕ Row
close_list Nothing p = Err (by_reader 6 p)
close_list (One whole) p = Err (by_reader 6 p)
close_list (Several whole) p = Ok whole

abbrev pub is_close : Kind → Bool
is_close Close = true
is_close Open = false
is_close Plus = false
is_close Star = false
is_close (Variable c) = false

-- the parts up to the closing bracket, `fuel` of them at most; `term` reads one
abbrev pub read_parts : ℕ → (Token → List Node → ℕ → Outcome ℕ) → List ℕ → Sign → Held → List Node → ℕ → Outcome ℕ
read_parts zero term text s held ns at = refuse 3 (length text) ns at
read_parts (suc fuel) term text s held ns at =
    due text ns at (λ t ns' at'.
    cond (is_close t.kind)
    (ended (close_list held t.place) ns' at')
    (bind (term t ns' at') (λ part ns'' at''. bind (add_part s held part t.place ns'' at'') (λ held'. read_parts fuel term text s held'))))

-- a list, behind its opening bracket
abbrev pub read_list : (Token → List Node → ℕ → Outcome ℕ) → List ℕ → List Node → ℕ → Outcome ℕ
read_list term text ns at = bind (read_sign text ns at) (λ s. read_parts (suc (length text)) term text s Nothing)

-- a variable is entered, a bracket opens the list o, and any other token is fault 4
abbrev pub by_kind : Token → List Node → ℕ → Outcome ℕ → Kind → Outcome ℕ
by_kind t ns at o (Variable c) = enter_at (node.Variable c) t.place ns at
by_kind t ns at o Open = o
by_kind t ns at o Close = refuse 4 t.place ns at
by_kind t ns at o Plus = refuse 4 t.place ns at
by_kind t ns at o Star = refuse 4 t.place ns at

-- the term that begins with the token t, where `left` brackets may still open: fault 5 at one more
abbrev pub read_term : ℕ → List ℕ → Token → List Node → ℕ → Outcome ℕ
read_term zero text t ns at = by_kind t ns at (refuse 5 t.place ns at) t.kind
read_term (suc left) text t ns at = by_kind t ns at (read_list (read_term left text) text ns at) t.kind

-- the end of the text behind the term, which is node k: fault 7 where a token follows
abbrev pub read_end : List ℕ → ℕ → List Node → ℕ → Outcome ℕ
read_end text k ns at = bind (next text ns at) (λ o ns' at'. or_end o (ended (Ok k) ns' at') (λ extra. refuse 7 extra.place ns' at'))

-- one term with at most 16 brackets open, and the end
abbrev pub read_whole : List ℕ → List Node → ℕ → Outcome ℕ
read_whole text ns at = due text ns at (λ t ns' at'. bind (read_term 16 text t ns' at') (read_end text))

-- a refused read leaves the sheet as it was
abbrev pub finished : State → Outcome ℕ → State × Result ℕ Row
finished S (ended (Ok k) ns at) = (record { nodes = ns; memo = S.memo }, Ok k)
finished S (ended (Err f) ns at) = (S, Err f)

abbrev pub reading : State → List ℕ → State × Result ℕ Row
reading S text = finished S (read_whole text S.nodes 0)

-- what the reader hands to the sheet: a token's code is one that there is, and what a list holds is one of the first n nodes
abbrev pub Known : Kind → Type 0
Known (Variable c) = c ≤ 2625
Known Open = Unit {0}
Known Close = Unit {0}
Known Plus = Unit {0}
Known Star = Unit {0}

abbrev pub Within : ℕ → Held → Type 0
Within n Nothing = Unit {0}
Within n (One k) = k < n
Within n (Several k) = k < n
