-- The laws of the bits in both and in either, and with them those of sets.
-- An operation on words that works bit by bit, by f on each, is told by its halves and its lowest bits.
use Rattle.std.specs.Prelude.{◌≡◌, ℕ, ◌/◌, ◌%◌, min, max, bit_and, bit_or, refl}
use Rattle.std.proofs.Common.{sym, ap, ◌∙◌, arith}
use Rattle.std.proofs.Math.Arith.{bin_ind}
use Rattle.std.proofs.lemmas.Nat.{and_comm, or_comm, or_lt, and_shr, or_shr}
use Rattle.std.specs.Int.Bits.{and_lt, and_step, or_step}
use Rattle.free_lattice.specs.Lattices.{Laws}
use Rattle.lattice.specs.Sets.{sets}

record Bitwise (op f : ℕ → ℕ → ℕ) : Type 0 where
  half : (a b : ℕ) → op a b / 2 ≡ op (a / 2) (b / 2)
  low : (a b : ℕ) → op a b % 2 ≡ f (a % 2) (b % 2)

by_digits : {a b : ℕ} → a / 2 ≡ b / 2 → a % 2 ≡ b % 2 → a ≡ b
by_digits {a} {b} hi lo = omega arith

assoc : (op f : ℕ → ℕ → ℕ) → Bitwise op f → ((b c : ℕ) → op (op 0 b) c ≡ op 0 (op b c)) → ((x y z : ℕ) → f (f x y) z ≡ f x (f y z))
    → (a b c : ℕ) → op (op a b) c ≡ op a (op b c)
assoc op f w none each =
    bin_ind (λ (n : ℕ). (b c : ℕ) → op (op n b) c ≡ op n (op b c)) none
    (λ n ih b c. by_digits
    (w.half (op n b) c ∙ ap (λ (x : ℕ). op x (c / 2)) (w.half n b) ∙ ih (b / 2) (c / 2) ∙ sym (w.half n (op b c) ∙ ap (op (n / 2)) (w.half b c)))
    (w.low (op n b) c ∙ ap (λ (x : ℕ). f x (c % 2)) (w.low n b) ∙ each (n % 2) (b % 2) (c % 2) ∙ sym (w.low n (op b c) ∙ ap (f (n % 2)) (w.low b c))))

absorbs : (op f op' f' : ℕ → ℕ → ℕ) → Bitwise op f → Bitwise op' f' → ((b : ℕ) → op 0 (op' 0 b) ≡ 0) → ((x y : ℕ) → f x (f' x y) ≡ x)
    → (a b : ℕ) → op a (op' a b) ≡ a
absorbs op f op' f' w w' none each =
    bin_ind (λ (n : ℕ). (b : ℕ) → op n (op' n b) ≡ n) none
    (λ n ih b. by_digits
    (w.half n (op' n b) ∙ ap (op (n / 2)) (w'.half n b) ∙ ih (b / 2))
    (w.low n (op' n b) ∙ ap (f (n % 2)) (w'.low n b) ∙ each (n % 2) (b % 2)))

both : Bitwise bit_and min
both = record { half = λ a b. and_shr a b 1; low = λ a b. omega (arith, and_step a b) }

either : Bitwise bit_or max
either = record { half = λ a b. or_shr a b 1; low = λ a b. omega (arith, or_step a b) }

pub sets_laws : Laws sets
sets_laws =
    record {
      meet_admitted = λ a b p q. and_lt 64 a b p q;
      join_admitted = λ a b p q. or_lt 64 a b p q;
      meet_comm = λ a b p q. and_comm a b;
      join_comm = λ a b p q. or_comm a b;
      meet_assoc = λ a b c p q r. assoc bit_and min both (λ b c. refl) (λ x y z. omega arith) a b c;
      join_assoc = λ a b c p q r. assoc bit_or max either (λ b c. refl) (λ x y z. omega arith) a b c;
      meet_absorbs_join = λ a b p q. absorbs bit_and min bit_or max both either (λ b. refl) (λ x y. omega arith) a b;
      join_absorbs_meet = λ a b p q. absorbs bit_or max bit_and min either both (λ b. refl) (λ x y. omega arith) a b;
    }
