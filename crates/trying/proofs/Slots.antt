-- Slots that are filled one after another, each from slots below it.
use Rattle.std.proofs.Common.{◌≡◌, ℕ, zero, suc, ◌+◌, ◌<◌, ◌≤◌, true, ◌≢◌, List, length, get_or, sym, refl, ap, ◌∙◌, inl, inr, add-one, arith, length-set}
use Rattle.std.proofs.lemmas.List.{get_or-set_other}
use Rattle.sheet.specs.declared.node.Node.{Node}
use Rattle.sheet.specs.declared.node.Node.TheVariants.{Variable, Meet, Join}
use Rattle.sheet.specs.Nodes.{node_at, fits}
use Rattle.sheet.proofs.Nodes.{order}
use Rattle.sheet.proofs.Terms.{parts_below}
use Rattle.trying.specs.Trying.{PartsBelow, put, filled}

-- a node that fits below k has its parts there
pub parts_of : (k : ℕ) (x : Node) → fits k x ≡ true → PartsBelow k x
parts_of k (Variable c) f = tt
parts_of k (Meet a b) f = parts_below k a b f
parts_of k (Join a b) f = parts_below k a b f

module _ {E : Type 0} (meet join : E → E → E) (d : E) where
  length_put : (k : ℕ) (x : Node) (s : List E) → length (put meet join d k x s) ≡ length s
  length_put k (Variable c) s = refl
  length_put k (Meet a b) s = length-set s k (meet (get_or s a d) (get_or s b d))
  length_put k (Join a b) s = length-set s k (join (get_or s a d) (get_or s b d))

  put_other : (e : E) (k j : ℕ) (x : Node) (s : List E) → j ≢ k → get_or (put meet join d k x s) j e ≡ get_or s j e
  put_other e k j (Variable c) s ne = refl
  put_other e k j (Meet a b) s ne = get_or-set_other s k j (meet (get_or s a d) (get_or s b d)) e ne
  put_other e k j (Join a b) s ne = get_or-set_other s k j (join (get_or s a d) (get_or s b d)) e ne

  module _ (ns : List Node) (s : List E) where
    pub length_filled : (n : ℕ) → length (filled meet join d ns n s) ≡ length s
    length_filled zero = refl
    length_filled (suc n) = length_put n (node_at ns n) (filled meet join d ns n s) ∙ length_filled n

    pub one_more : (k : ℕ) → filled meet join d ns (k + 1) s ≡ put meet join d k (node_at ns k) (filled meet join d ns k s)
    one_more k = ap (λ n. filled meet join d ns n s) (add-one k)

    -- the slots from n on stay
    pub untouched : (n j : ℕ) (e : E) → n ≤ j → get_or (filled meet join d ns n s) j e ≡ get_or s j e
    untouched zero j e h = refl
    untouched (suc n) j e h =
        let ne : j ≢ n = omega arith in put_other e n j (node_at ns n) (filled meet join d ns n s) ne ∙ untouched n j e (omega arith)

    -- a slot is filled once
    pub once : (n j : ℕ) (e : E) → j < n → get_or (filled meet join d ns n s) j e ≡ get_or (filled meet join d ns (suc j) s) j e
    once zero j e h = absurd (omega arith)
    once (suc n) j e h =
        elim (order j n (omega arith)) [
          | inl lt ↦ (let ne : j ≢ n = omega arith in put_other e n j (node_at ns n) (filled meet join d ns n s) ne ∙ once n j e lt)
          | inr q ↦ ap (λ x. get_or (filled meet join d ns (suc x) s) j e) (sym q)
        ]
