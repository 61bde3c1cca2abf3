-- The order that closing makes of lines decides whether a chain of them leads from one element to another.
use Rattle.std.proofs.Common.{◌≡◌, ℕ, zero, suc, ◌+◌, ◌<◌, ◌≤◌, Bool, true, false, ◌&&◌, ◌||◌, eqb, ltb, ◌⊎◌, Decides, sym, refl, ap, ◌∙◌, subst, inl, inr, add-one, arith}
use Rattle.std.proofs.lemmas.Bool.{and_parts, and_from, or_cases, or_left, or_right, ltb-true, lt-ltb, eqb-true, eq-eqb}
use Rattle.frames.specs.Tests.{word}
use Rattle.frames.specs.Order.{le}
use Rattle.frames.specs.Drafts.{Drafted}
use Rattle.frames.specs.Closing.{begun, linked, chained, closure}
use Rattle.frames.specs.Laws.{Chain, stay, line, then}
use Rattle.frames.specs.Finding.{below_or}
use Rattle.frames.proofs.Words.{le_word}

pub chained_more : (k w : ℕ) → chained (k + 1) w ≡ word (linked (chained k w) k)
unfolding chained
chained_more k w = ap (λ n. chained n w) (add-one k)

pub chained_none : (w : ℕ) → chained 0 w ≡ w
unfolding chained
chained_none w = refl

-- Each turn adds what goes by way of one number more, so after k turns the order is closed under going by way of numbers below k.
module _ (w : ℕ) where
  abbrev R : ℕ → ℕ → ℕ → Bool
  R k a b = le (chained k w) false a b

  next : (k a b : ℕ) → a < 8 → b < 8 → R (suc k) a b ≡ (R k a b || (R k a k && R k k b))
  unfolding chained
  next k a b ha hb = le_word (linked (chained k w) k) a b ha hb

  kept : (k a b : ℕ) → a < 8 → b < 8 → R k a b ≡ true → R (suc k) a b ≡ true
  kept k a b ha hb e = next k a b ha hb ∙ or_left (R k a b) (R k a k && R k k b) e

  via : (k a b : ℕ) → a < 8 → b < 8 → R k a k ≡ true → R k k b ≡ true → R (suc k) a b ≡ true
  via k a b ha hb p q = next k a b ha hb ∙ or_right (R k a b) (R k a k && R k k b) (and_from (R k a k) (R k k b) p q)

  ways : (k a b : ℕ) → a < 8 → b < 8 → R (suc k) a b ≡ true → (R k a b ≡ true) ⊎ ((R k a k ≡ true) × (R k k b ≡ true))
  ways k a b ha hb e =
      elim (or_cases (R k a b) (R k a k && R k k b) (sym (next k a b ha hb) ∙ e)) [
        | inl p ↦ inl p
        | inr q ↦ inr (and_parts (R k a k) (R k k b) q)
      ]

  through : (k : ℕ) → k ≤ 8 → (a c b : ℕ) → a < 8 → b < 8 → c < k → R k a c ≡ true → R k c b ≡ true → R k a b ≡ true
  through zero h a c b ha hb hc p q = elim hc [ ]
  through (suc k) h a c b ha hb hc p q =
      let ih : (x y z : ℕ) → x < 8 → z < 8 → y < k → R k x y ≡ true → R k y z ≡ true → R k x z ≡ true = through k (omega arith) in
      let k8 : k < 8 = omega arith in
      let c8 : c < 8 = omega arith in
      elim (below_or c k hc) [
        | inl lt ↦ elim (ways k a c ha c8 p) [
          | inl ac ↦ elim (ways k c b c8 hb q) [
            | inl cb ↦ kept k a b ha hb (ih a c b ha hb lt ac cb)
            | inr v ↦ via k a b ha hb (ih a c k ha k8 lt ac v.0) v.1
          ]
          | inr u ↦ elim (ways k c b c8 hb q) [
            | inl cb ↦ via k a b ha hb u.0 (ih k c b k8 hb lt u.1 cb)
            | inr v ↦ via k a b ha hb u.0 v.1
          ]
        ]
        | inr e ↦
            (let ak : R k a k ≡ true = elim (ways k a c ha c8 p) [ inl ac ↦ ap (λ x. R k a x) (sym e) ∙ ac | inr u ↦ u.0 ] in
            let kb : R k k b ≡ true = elim (ways k c b c8 hb q) [ inl cb ↦ ap (λ x. R k x b) (sym e) ∙ cb | inr v ↦ v.1 ] in
            via k a b ha hb ak kb)
      ]

  kept_all : (k a b : ℕ) → a < 8 → b < 8 → R 0 a b ≡ true → R k a b ≡ true
  kept_all zero a b ha hb e = e
  kept_all (suc k) a b ha hb e = kept k a b ha hb (kept_all k a b ha hb e)

  -- what a relation that can be followed twice holds at first, it holds in the end
  sound : (C : ℕ → ℕ → Type 0) → ((a b : ℕ) → a < 8 → b < 8 → R 0 a b ≡ true → C a b) → ((a b c : ℕ) → C a b → C b c → C a c)
      → (k a b : ℕ) → k ≤ 8 → a < 8 → b < 8 → R k a b ≡ true → C a b
  sound C base trans zero a b h ha hb e = base a b ha hb e
  sound C base trans (suc k) a b h ha hb e =
      elim (ways k a b ha hb e) [
        | inl p ↦ sound C base trans k a b (omega arith) ha hb p
        | inr q ↦ trans a k b (sound C base trans k a k (omega arith) ha (omega arith) q.0) (sound C base trans k k b (omega arith) (omega arith) hb q.1)
      ]

module _ (D : Drafted) (few : D.size ≤ 8) where
  abbrev n : ℕ
  n = D.size

  abbrev first_order : ℕ
  first_order = word (begun n D.lines)

  abbrev order : ℕ
  order = closure n D.lines

  start : (a b : ℕ) → a < 8 → b < 8 → R first_order 0 a b ≡ begun n D.lines a b
  unfolding chained
  start a b ha hb = le_word (begun n D.lines) a b ha hb

  begins : (a b : ℕ) → a < n → b < n → (eqb a b || le D.lines false a b) ≡ true → le order false a b ≡ true
  unfolding closure
  begins a b p q e =
      let a8 : a < 8 = omega arith in
      let b8 : b < 8 = omega arith in
      kept_all first_order n a b a8 b8
      (start a b a8 b8 ∙ and_from (ltb a n) (ltb b n && (eqb a b || le D.lines false a b)) (lt-ltb a n p)
      (and_from (ltb b n) (eqb a b || le D.lines false a b) (lt-ltb b n q) e))

  chain_begins : (a b : ℕ) → a < 8 → b < 8 → R first_order 0 a b ≡ true → Chain D a b
  chain_begins a b ha hb e =
      let s = and_parts (ltb a n) (ltb b n && (eqb a b || le D.lines false a b)) (sym (start a b ha hb) ∙ e) in
      let t = and_parts (ltb b n) (eqb a b || le D.lines false a b) s.1 in
      let p = ltb-true a n s.0 in
      elim (or_cases (eqb a b) (le D.lines false a b) t.1) [
        | inl q ↦ subst (Chain D a) (eqb-true a b q) (stay a p)
        | inr q ↦ line a b p (ltb-true b n t.0) q
      ]

  pub chain_ends : (a b : ℕ) → Chain D a b → (a < n) × (b < n)
  chain_ends a b (stay x p) = (p, p)
  chain_ends a b (line x y p q e) = (p, q)
  chain_ends a b (then x y z p q) = ((chain_ends x y p).0, (chain_ends y z q).1)

  chain_holds : (a b : ℕ) → Chain D a b → le order false a b ≡ true
  unfolding closure
  chain_holds a b (stay x p) = begins x x p p (or_left (eqb x x) (le D.lines false x x) (eq-eqb x x refl))
  chain_holds a b (line x y p q e) = begins x y p q (or_right (eqb x y) (le D.lines false x y) e)
  chain_holds a b (then x y z p q) =
      let xy = chain_ends x y p in
      let yz = chain_ends y z q in
      through first_order n few x y z (omega (arith, xy.0)) (omega (arith, yz.1)) xy.1 (chain_holds x y p) (chain_holds y z q)

  pub chains_decided : (a b : ℕ) → a < n → b < n → Decides (le order false a b) (Chain D a b)
  unfolding closure
  chains_decided a b p q =
      (sound first_order (Chain D) chain_begins then n a b few (omega arith) (omega arith), chain_holds a b)
