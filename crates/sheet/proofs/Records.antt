-- The memo of the records: it stays when a node is added, and has the pairs of the first nodes when the last are taken off.
use Rattle.std.proofs.Common.{◌≡◌, ℕ, zero, suc, ◌+◌, ◌-◌, ◌/◌, ◌%◌, ◌^◌, ◌<◌, ◌≤◌, max, false, cond, eqb, ltb, ◌⊎◌, List, [], ◌∷◌, ◌++◌, length, get_or, take, is_some, Some, None, sym, refl, ap, ◌∙◌, ap₂, inl, inr, mod-lt, arith, pow_pos, pow_mono}
use mathlib.Core.Path.{fun_ext}
use native.Mathlib.Nat.{div-eq_of_lt}
use lib.ListN.{length-map}
use lib.Pow.{field, mod-mod-pow}
use Rattle.std.proofs.lemmas.List.{map-append, length-take, get_or-take, get_or-map, take-map, get_or_past}
use Rattle.std.proofs.lemmas.Simd.{map-map}
use Rattle.std.proofs.lemmas.Bool.{lt-ltb, le-ltb, cases_lt}
use Rattle.sheet.specs.declared.node.Node.{Node}
use Rattle.sheet.specs.declared.node.Node.TheVariants.{Variable}
use Rattle.sheet.specs.declared.node.Record.{Record}
use Rattle.sheet.specs.Records.{Memo, fresh, within, shorter, nodes, bit, answers, memo, Inside}

-- a record with no settled pair has the answers of no record
push_row : (rs : List Record) (n : Node) (i : ℕ) → answers (get_or (rs ++ fresh n ∷ []) i (fresh (Variable 0))) ≡ answers (get_or rs i (fresh (Variable 0)))
push_row [] n zero = refl
push_row [] n (suc i) = refl
push_row (r ∷ rs) n zero = refl
push_row (r ∷ rs) n (suc i) = push_row rs n i

pub memo_push : (rs : List Record) (n : Node) → memo (rs ++ fresh n ∷ []) ≡ memo rs
memo_push rs n = fun_ext (push_row rs n)

pub nodes_push : (rs : List Record) (n : Node) → nodes (rs ++ fresh n ∷ []) ≡ nodes rs ++ n ∷ []
nodes_push rs n = map-append (λ (r : Record). r.node) rs (fresh n ∷ [])

pub inside_more : (n k : ℕ) (m : Memo) → Inside n m → n ≤ k → Inside k m
inside_more n k m h le i j l = h i j (omega arith)

-- the nodes, one for each record
pub nodes_length : (rs : List Record) → length (nodes rs) ≡ length rs
nodes_length rs = length-map rs (λ (r : Record). r.node)

-- the low bits of a word
low_bit : (w n j : ℕ) → j < n → bit (w % 2 ^ n) j ≡ bit w j
low_bit w n j lt =
    let split : n ≡ (n - suc j + 1) + j = omega arith in
    ap (λ x. eqb (w % 2 ^ x / 2 ^ j % 2) 1) split
    ∙ ap (λ x. eqb (x % 2) 1) (field w (n - suc j + 1) j)
    ∙ ap (λ x. eqb x 1) (mod-mod-pow (w / 2 ^ j) (n - suc j) 1)

high_bit : (w n j : ℕ) → n ≤ j → bit (w % 2 ^ n) j ≡ false
high_bit w n j le =
    let small : w % 2 ^ n < 2 ^ j = omega (arith, mod-lt w (pow_pos n), pow_mono le) in
    ap (λ x. eqb (x % 2) 1) (div-eq_of_lt small)

-- the answers that a record keeps with the first n nodes
within_low : (n : ℕ) (r : Record) (j : ℕ) → j < n → answers (within n r) j ≡ answers r j
within_low n r j lt = ap₂ (λ s a. cond s (Some a) None) (low_bit r.settled n j lt) (low_bit r.affirmed n j lt)

within_high : (n : ℕ) (r : Record) (j : ℕ) → n ≤ j → answers (within n r) j ≡ None
within_high n r j le = ap (λ s. cond s (Some (bit (r.affirmed % 2 ^ n) j)) None) (high_bit r.settled n j le)

pub nodes_shorter : (n : ℕ) (rs : List Record) → nodes (shorter n rs) ≡ take n (nodes rs)
nodes_shorter n rs = map-map (λ (r : Record). r.node) (within n) (take n rs) ∙ sym (take-map (λ (r : Record). r.node) n rs)

module _ (n : ℕ) (rs : List Record) where
  abbrev record_at : List Record → ℕ → Record
  record_at l i = get_or l i (fresh (Variable 0))

  row_below : (i j : ℕ) → i < n → i < length rs → memo (shorter n rs) i j ≡ answers (within n (record_at rs i)) j
  row_below i j lt there =
      let here : i < length (take n rs) = omega (arith, length-take n rs) in
      ap (λ r. answers r j) (get_or-map (within n) (take n rs) i (fresh (Variable 0)) (fresh (Variable 0)) here ∙ ap (within n) (get_or-take n rs i (fresh (Variable 0)) lt))

  row_past : (i j : ℕ) → n ≤ i → memo (shorter n rs) i j ≡ None
  row_past i j le =
      let past : length (shorter n rs) ≤ i = omega (arith, length-map (take n rs) (within n), length-take n rs) in
      ap (λ r. answers r j) (get_or_past (shorter n rs) i (fresh (Variable 0)) past) ∙ ap (λ x. cond (eqb (x % 2) 1) (Some (bit 0 j)) None) (div-eq_of_lt (pow_pos j))

  pub memo_shorter : n ≤ length rs → memo (shorter n rs) ≡ (λ i j. cond (ltb (max i j) n) (memo rs i j) None)
  memo_shorter fit = fun_ext (λ i. fun_ext (λ j. go i j (cases_lt i n) (cases_lt j n)))
    where
      go : (i j : ℕ) → (i < n) ⊎ (n ≤ i) → (j < n) ⊎ (n ≤ j) → memo (shorter n rs) i j ≡ cond (ltb (max i j) n) (memo rs i j) None
      go i j (inl li) (inl lj) =
          row_below i j li (omega arith) ∙ within_low n (record_at rs i) j lj ∙ sym (ap (λ b. cond b (memo rs i j) None) (lt-ltb (max i j) n (omega arith)))
      go i j (inl li) (inr gj) =
          row_below i j li (omega arith) ∙ within_high n (record_at rs i) j gj ∙ sym (ap (λ b. cond b (memo rs i j) None) (le-ltb (max i j) n (omega arith)))
      go i j (inr gi) d = row_past i j gi ∙ sym (ap (λ b. cond b (memo rs i j) None) (le-ltb (max i j) n (omega arith)))

  pub inside_shorter : n ≤ length rs → Inside n (memo (shorter n rs))
  inside_shorter fit i j le = ap (λ m. is_some (m i j)) (memo_shorter fit) ∙ ap (λ b. is_some (cond b (memo rs i j) None)) (le-ltb (max i j) n le)
