-- The bounds that are found in an order, for any relation R that the order decides.
use Rattle.std.specs.Prelude.{◌≡◌, ℕ, ◌<◌, Bool, true, false, not, ◌&&◌, ◌||◌, is_some, Some, None, Decides, Option, refl}
use Rattle.std.proofs.Common.{arith}
use Rattle.std.specs.Option.{unwrap_or}
use Rattle.std.proofs.lemmas.Bool.{and_parts, and_from, both_ways}
use Rattle.free_lattice.specs.Bounds.{Infimum, turned, Order, Bounded}
use Rattle.frames.specs.Tests.{every}
use Rattle.frames.specs.Order.{le, follows, best, bound, bound_in, frame, Reflexive, Transitive, Antisymmetric, Complete}
use Rattle.frames.specs.Finding.{every_at, every_all, first_none, first_found}

stays : (x y z : Bool) → (not x || (not y || z)) ≡ true → x ≡ true → y ≡ true → z ≡ true
stays true true z h p q = h
stays true false z h p q = absurd (grind arith)
stays false y z h p q = absurd (grind arith)

implies : (x y z : Bool) → (x ≡ true → y ≡ true → z ≡ true) → (not x || (not y || z)) ≡ true
implies true true z h = h refl refl
implies true false z h = refl
implies false y z h = refl

-- the order R, or R seen from above
abbrev pub Facing : (ℕ → ℕ → Type 0) → Bool → ℕ → ℕ → Type 0
Facing R false = R
Facing R true = turned R

module _ (n w : ℕ) (R : ℕ → ℕ → Type 0) (decides : (a b : ℕ) → a < n → b < n → Decides (le w false a b) (R a b)) where
  faces : (up : Bool) (a b : ℕ) → a < n → b < n → Decides (le w up a b) (Facing R up a b)
  unfolding le
  faces false a b p q = decides a b p q
  faces true a b p q = decides b a q p

  -- c is the greatest lower bound of a and b, or the least upper one where up
  abbrev pub Bound : Bool → ℕ → ℕ → ℕ → Type 0
  Bound up = Infimum (λ x. x < n) (Facing R up)

  bound_of_best : (up : Bool) (a b c : ℕ) → a < n → b < n → c < n → best n w up a b c ≡ true → Bound up a b c
  bound_of_best up a b c p q r h =
      let s = and_parts (le w up c a) (le w up c b && every n (follows w up a b c)) h in
      let t = and_parts (le w up c b) (every n (follows w up a b c)) s.1 in
      record {
        among = r;
        lower_left = (faces up c a r p).0 s.0;
        lower_right = (faces up c b r q).0 t.0;
        greatest = λ d l x y. (faces up d c l r).0
            (stays (le w up d a) (le w up d b) (le w up d c) (every_at n d (follows w up a b c) t.1 l) ((faces up d a l p).1 x) ((faces up d b l q).1 y));
      }

  best_of_bound : (up : Bool) (a b c : ℕ) → a < n → b < n → Bound up a b c → best n w up a b c ≡ true
  best_of_bound up a b c p q i =
      let r = i.among in
      and_from (le w up c a) (le w up c b && every n (follows w up a b c)) ((faces up c a r p).1 i.lower_left)
      (and_from (le w up c b) (every n (follows w up a b c)) ((faces up c b r q).1 i.lower_right)
      (every_all n (follows w up a b c) (λ d l. implies (le w up d a) (le w up d b) (le w up d c)
      (λ x y. (faces up d c l r).1 (i.greatest d l ((faces up d a l p).0 x) ((faces up d b l q).0 y))))))

  bound_some : (up : Bool) (a b c : ℕ) → a < n → b < n → bound n w up a b ≡ Some c → Bound up a b c
  unfolding bound
  bound_some up a b c p q e =
      let f = first_found n (best n w up a b) c e in bound_of_best up a b c p q f.inside f.passes

  bound_none : (up : Bool) (a b c : ℕ) → a < n → b < n → bound n w up a b ≡ None → Bound up a b c → ⊥
  unfolding bound
  bound_none up a b c p q e i =
      both_ways (best n w up a b c) (first_none n (best n w up a b) e c i.among) (best_of_bound up a b c p q i)

  -- a bound is found exactly where there is one
  pub bound_decides : (up : Bool) (a b : ℕ) → a < n → b < n → Decides (is_some (bound n w up a b)) ((c : ℕ) × Bound up a b c)
  bound_decides up a b p q = by (bound n w up a b) refl
    where
      by : (o : Option ℕ) → bound n w up a b ≡ o → Decides (is_some o) ((c : ℕ) × Bound up a b c)
      by (Some c) e = (λ _. (c, bound_some up a b c p q e), λ _. refl)
      by None e = (λ z. absurd (grind arith), λ i. absurd (bound_none up a b i.0 p q e i.1))

  pub bound_is : (up : Bool) (a b : ℕ) → a < n → b < n → is_some (bound n w up a b) ≡ true → Bound up a b (bound_in n w up a b)
  bound_is up a b p q h = by (bound n w up a b) refl h
    where
      by : (o : Option ℕ) → bound n w up a b ≡ o → is_some o ≡ true → Bound up a b (unwrap_or o 0)
      by (Some c) e h = bound_some up a b c p q e
      by None e h = absurd (grind arith)

  pub frame_bounded : Order (λ x. x < n) R → ((up : Bool) (a b : ℕ) → a < n → b < n → is_some (bound n w up a b) ≡ true) → Bounded (frame (record { size = n; order = w })) R
  frame_bounded o all =
      record {
        order = o;
        infima = λ a b p q. bound_is false a b p q (all false a b p q);
        suprema = λ a b p q. bound_is true a b p q (all true a b p q);
      }

  -- an order that decides R has what a frame has, where R has it
  pub reflexive_by : Order (λ x. x < n) R → Reflexive n w
  reflexive_by o a p = (decides a a p p).1 (o.reflexive a p)

  pub transitive_by : Order (λ x. x < n) R → Transitive n w
  transitive_by o a c (b, p, q, r, ab, bc) = (decides a c p r).1 (o.transitive a b c p q r ((decides a b p q).0 ab) ((decides b c q r).0 bc))

  pub antisymmetric_by : Order (λ x. x < n) R → Antisymmetric n w
  antisymmetric_by o a b (p, q, ab, ba) = o.antisymmetric a b p q ((decides a b p q).0 ab) ((decides b a q p).0 ba)

  pub complete_by : Bounded (frame (record { size = n; order = w })) R → Complete n w
  complete_by h a b (false, p, q) = (bound_decides false a b p q).1 (_, h.infima a b p q)
  complete_by h a b (true, p, q) = (bound_decides true a b p q).1 (_, h.suprema a b p q)
