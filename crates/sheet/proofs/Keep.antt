-- What is left of a sheet where nothing, or only what was added, is taken off.
use Rattle.std.proofs.Common.{◌≡◌, ℕ, ◌<◌, ◌≤◌, max, Bool, false, cond, ltb, ◌⊎◌, List, [], ◌++◌, is_some, Some, None, Option, refl, ap, ◌∙◌, inl, inr, arith}
use mathlib.Core.Path.{fun_ext}
use Rattle.std.proofs.lemmas.List.{take_all, take_at}
use Rattle.std.proofs.lemmas.Bool.{lt-ltb, le-ltb, cases_lt}
use Rattle.sheet.specs.declared.node.Node.{Node}
use Rattle.sheet.specs.Records.{Memo, Inside}
use Rattle.sheet.specs.State.{State, blank, count}
use Rattle.sheet.specs.Keep.{kept}

no_answer : (o : Option Bool) → is_some o ≡ false → None ≡ o
no_answer None h = refl
no_answer (Some b) h = absurd (cc)

-- no pair is lost where all settled pairs are of nodes that stay
memo_kept : (n k : ℕ) (m : Memo) → Inside k m → k ≤ n → (λ i j. cond (ltb (max i j) n) (m i j) None) ≡ m
memo_kept n k m h le = fun_ext (λ i. fun_ext (λ j. go i j (cases_lt (max i j) n)))
  where
    go : (i j : ℕ) → (max i j < n) ⊎ (n ≤ max i j) → cond (ltb (max i j) n) (m i j) None ≡ m i j
    go i j (inl lt) = ap (λ b. cond b (m i j) None) (lt-ltb (max i j) n lt)
    go i j (inr ge) = ap (λ b. cond b (m i j) None) (le-ltb (max i j) n ge) ∙ no_answer (m i j) (h i j (omega arith))

-- nothing is taken off
pub kept_all : (n : ℕ) (S : State) → count S ≤ n → Inside (count S) S.memo → kept n S ≡ S
kept_all n S le h = let nodes = take_all n S.nodes le in let memo = memo_kept n (count S) S.memo h le in λ i. record { nodes = nodes i; memo = memo i }

-- what was added is taken off again
pub kept_back : (S : State) (more : List Node) → Inside (count S) S.memo → kept (count S) (record { nodes = S.nodes ++ more; memo = S.memo }) ≡ S
kept_back S more h =
    let nodes = take_at S.nodes more (count S) refl in
    let memo = memo_kept (count S) (count S) S.memo h (omega arith) in
    λ i. record { nodes = nodes i; memo = memo i }

-- all is taken off
pub kept_none : (S : State) → kept 0 S ≡ blank
kept_none S =
    let none : (λ i j. cond (ltb (max i j) 0) (S.memo i j) None) ≡ blank.memo = fun_ext (λ i. fun_ext (λ j. ap (λ b. cond b (S.memo i j) None) (le-ltb (max i j) 0 (omega arith)))) in
    λ i. record { nodes = []; memo = none i }
