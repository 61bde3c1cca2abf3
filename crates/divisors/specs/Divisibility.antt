-- The divisors of a positive number, ordered by divisibility, are a lattice.
use Rattle.std.specs.Prelude.{◌≡◌, ℕ, ◌%◌, ◌<◌, not, Decides, ◌==◌, ◌≢◌}
use Rattle.std.specs.Int.{◌∣◌}
use Rattle.std.proofs.Math.Nat.{dvd_refl, dvd_trans, dvd_antisymm, dvd_of_mod-eq-zero, mod-eq-zero_of_dvd, pos_of_dvd_of_pos}
use Rattle.std.proofs.Common.{arith}
use Rattle.std.proofs.lemmas.Bool.Decides.{Decides-like, Decides-and, Decides-not, Decides-eqb}
use Rattle.free_lattice.specs.Bounds.{Bounded}
use Rattle.divisors.specs.Divisors.{divides, gcd, divisors}
use Rattle.divisors.specs.Gcds.{gcd_divides_left, gcd_divides_right, divides_gcd, divides_lcm_left, divides_lcm_right, lcm_divides}

pub decides_divides : (x n : ℕ) → 0 < n → Decides (divides x n) (x ∣ n)
decides_divides x n pos =
    let tested = Decides-and (not (x == 0)) (n % x == 0) (Decides-not (x == 0) (Decides-eqb x 0)) (Decides-eqb (n % x) 0) in
    let from : x ∣ n → (x ≢ 0) × (n % x ≡ 0) = λ d. let p : 0 < x = pos_of_dvd_of_pos d pos in (λ e. omega arith, mod-eq-zero_of_dvd x d) in
    Decides-like (divides x n) (λ h. dvd_of_mod-eq-zero x h.1) from tested

pub divisors_bounded : (n : ℕ) → 0 < n → Bounded (divisors n) (λ a b. a ∣ b)
divisors_bounded n pos =
    record {
      order = record { reflexive = λ a p. dvd_refl a; transitive = λ a b c p q r x y. dvd_trans a x y; antisymmetric = λ a b p q x y. dvd_antisymm x y };
      infima = λ a b p q. record {
        among = dvd_trans (gcd a b) (gcd_divides_left a b) p;
        lower_left = gcd_divides_left a b;
        lower_right = gcd_divides_right a b;
        greatest = λ d r x y. divides_gcd a b d x y;
      };
      suprema = λ a b p q. record {
        among = lcm_divides a b n pos p q;
        lower_left = divides_lcm_left a b (pos_of_dvd_of_pos p pos);
        lower_right = divides_lcm_right a b;
        greatest = λ d r x y. lcm_divides a b d (pos_of_dvd_of_pos r pos) x y;
      };
    }
