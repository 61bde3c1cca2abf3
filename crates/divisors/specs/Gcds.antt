-- What Euclid's divisions leave is the greatest common divisor, and from it comes the least common multiple.
use Rattle.std.specs.Prelude.{◌≡◌, ℕ, zero, suc, ◌*◌, ◌/◌, ◌%◌, ◌<◌}
use Rattle.std.proofs.Common.{sym, ap, subst, ◌∙◌, mod-lt, mul_comm, mul_right_comm, arith}
use Rattle.std.specs.Int.{◌∣◌}
use Rattle.std.proofs.Math.Nat.{dvd_refl, dvd-zero, dvd_trans, dvd-mod_iff, dvd_antisymm, dvd-mul_left, dvd-mul_right, mul-dvd-mul_left, mul-dvd-mul_right, dvd_of_mul-dvd-mul_left, dvd_of_mul-dvd-mul_right, mul-div_cancel', div-mul_cancel, pos_of_dvd_of_pos, le_of_dvd}
use Rattle.divisors.specs.Divisors.{euclid, gcd, lcm, GreatestCommonDivisor, LeastCommonMultiple}

euclid_divides : (f a b : ℕ) → b < f → (euclid f a b ∣ a) × (euclid f a b ∣ b)
euclid_divides zero a b h = elim h [ ]
euclid_divides (suc f) a zero h = (dvd_refl a, dvd-zero a)
euclid_divides (suc f) a (suc b) h =
    let less : a % suc b < suc b = mod-lt a (omega arith) in
    let left = euclid_divides f (suc b) (a % suc b) (omega arith) in
    ((dvd-mod_iff _ left.0).0 left.1, left.0)

euclid_greatest : (f a b c : ℕ) → b < f → c ∣ a → c ∣ b → c ∣ euclid f a b
euclid_greatest zero a b c h p q = elim h [ ]
euclid_greatest (suc f) a zero c h p q = p
euclid_greatest (suc f) a (suc b) c h p q =
    let less : a % suc b < suc b = mod-lt a (omega arith) in
    euclid_greatest f (suc b) (a % suc b) c (omega arith) q ((dvd-mod_iff c q).1 p)

pub gcd_divides_left : (a b : ℕ) → gcd a b ∣ a
gcd_divides_left a b = (euclid_divides (suc b) a b (omega arith)).0

pub gcd_divides_right : (a b : ℕ) → gcd a b ∣ b
gcd_divides_right a b = (euclid_divides (suc b) a b (omega arith)).1

pub divides_gcd : (a b c : ℕ) → c ∣ a → c ∣ b → c ∣ gcd a b
divides_gcd a b c = euclid_greatest (suc b) a b c (omega arith)

pub gcd_positive : (a b : ℕ) → 0 < a → 0 < gcd a b
gcd_positive a b = pos_of_dvd_of_pos (gcd_divides_left a b)

pub gcd_greatest : (a b : ℕ) → 0 < a → GreatestCommonDivisor a b (gcd a b)
gcd_greatest a b pos =
    record {
      divides_left = gcd_divides_left a b;
      divides_right = gcd_divides_right a b;
      greatest = λ c p q. let d = divides_gcd a b c p q in (d, le_of_dvd (gcd_positive a b pos) d);
    }

-- one of Euclid's divisions
pub gcd_division : (a b : ℕ) → gcd b (a % b) ≡ gcd a b
gcd_division a b =
    let left = gcd_divides_left b (a % b) in
    let right = gcd_divides_right a b in
    let up = divides_gcd a b _ ((dvd-mod_iff _ left).0 (gcd_divides_right b (a % b))) left in
    let down = divides_gcd b (a % b) _ right ((dvd-mod_iff _ right).1 (gcd_divides_left a b)) in
    dvd_antisymm up down

-- a factor of both numbers can be taken out
gcd_factor : (k a b : ℕ) → 0 < k → gcd (k * a) (k * b) ∣ k * gcd a b
gcd_factor k a b pos =
    let h = gcd (k * a) (k * b) in
    let e : k * (h / k) ≡ h = mul-div_cancel' k (divides_gcd (k * a) (k * b) k (dvd-mul_right k a) (dvd-mul_right k b)) in
    let within : (c : ℕ) → h ∣ k * c → h / k ∣ c = λ c d. dvd_of_mul-dvd-mul_left (h / k) pos (subst (λ x. x ∣ k * c) (sym e) d) in
    let d = divides_gcd a b (h / k) (within a (gcd_divides_left (k * a) (k * b))) (within b (gcd_divides_right (k * a) (k * b))) in
    subst (λ x. x ∣ k * gcd a b) e (mul-dvd-mul_left (h / k) k d)

-- the product of the two is that of the numbers
pub lcm_gcd : (a b : ℕ) → lcm a b * gcd a b ≡ a * b
lcm_gcd a b = mul_right_comm (a / gcd a b) b (gcd a b) ∙ ap (λ x. x * b) (div-mul_cancel (gcd a b) (gcd_divides_left a b))

pub divides_lcm_right : (a b : ℕ) → b ∣ lcm a b
divides_lcm_right a b = dvd-mul_left b (a / gcd a b)

pub divides_lcm_left : (a b : ℕ) → 0 < a → a ∣ lcm a b
divides_lcm_left a b pos =
    let times_gcd = subst (λ x. a * gcd a b ∣ x) (sym (lcm_gcd a b)) (mul-dvd-mul_left (gcd a b) a (gcd_divides_right a b)) in
    dvd_of_mul-dvd-mul_right a (gcd_positive a b pos) times_gcd

pub lcm_divides : (a b c : ℕ) → 0 < c → a ∣ c → b ∣ c → lcm a b ∣ c
lcm_divides a b c pos p q =
    let left = subst (λ x. a * b ∣ x) (mul_comm a c) (mul-dvd-mul_left b a q) in
    let both = divides_gcd (c * a) (c * b) (a * b) left (mul-dvd-mul_right a p b) in
    let times_gcd = subst (λ x. x ∣ c * gcd a b) (sym (lcm_gcd a b)) (dvd_trans (a * b) both (gcd_factor c a b pos)) in
    dvd_of_mul-dvd-mul_right (lcm a b) (gcd_positive a b (pos_of_dvd_of_pos p pos)) times_gcd

pub lcm_least : (a b : ℕ) → 0 < a → LeastCommonMultiple a b (lcm a b)
lcm_least a b pos =
    record {
      multiple_left = divides_lcm_left a b pos;
      multiple_right = divides_lcm_right a b;
      least = λ c h p q. let d = lcm_divides a b c h p q in (d, le_of_dvd h d);
    }
