-- Where the elements of a lattice are numbers, its laws hold of the numbers.
use Rattle.std.specs.Prelude.{◌≡◌, ℕ}
use Rattle.std.proofs.Common.{sym, ap, subst, ◌∙◌}
use Rattle.free_lattice.specs.Lattices.{Meaning, Laws}
use Rattle.desk.specs.Wide.{Numbering, wide}

module _ {E : Type 0} (i : Numbering E) (m : Meaning E) (l : Laws m) where
  admitted_again : (e : E) → m.admitted e → m.admitted (i.element (i.number e))
  admitted_again e = subst m.admitted (sym (i.same_element e))

  -- what associates, or absorbs another operation, does so on numbers too
  associates : (op : E → E → E) (a b c : E) → op (op a b) c ≡ op a (op b c) → i.number (op (i.element (i.number (op a b))) c) ≡ i.number (op a (i.element (i.number (op b c))))
  associates op a b c e = ap i.number (ap (λ x. op x c) (i.same_element (op a b)) ∙ e ∙ ap (op a) (sym (i.same_element (op b c))))

  absorbs : (op op' : E → E → E) (a : ℕ) (b : E) → op (i.element a) (op' (i.element a) b) ≡ i.element a → i.number (op (i.element a) (i.element (i.number (op' (i.element a) b)))) ≡ a
  absorbs op op' a b e = ap i.number (ap (op (i.element a)) (i.same_element (op' (i.element a) b)) ∙ e) ∙ i.same_number a

  pub wide_laws : Laws (wide i m)
  wide_laws =
      record {
        meet_admitted = λ a b p q. admitted_again _ (l.meet_admitted (i.element a) (i.element b) p q);
        join_admitted = λ a b p q. admitted_again _ (l.join_admitted (i.element a) (i.element b) p q);
        meet_comm = λ a b p q. ap i.number (l.meet_comm (i.element a) (i.element b) p q);
        join_comm = λ a b p q. ap i.number (l.join_comm (i.element a) (i.element b) p q);
        meet_assoc = λ a b c p q r. associates m.meet _ _ _ (l.meet_assoc (i.element a) (i.element b) (i.element c) p q r);
        join_assoc = λ a b c p q r. associates m.join _ _ _ (l.join_assoc (i.element a) (i.element b) (i.element c) p q r);
        meet_absorbs_join = λ a b p q. absorbs m.meet m.join a _ (l.meet_absorbs_join (i.element a) (i.element b) p q);
        join_absorbs_meet = λ a b p q. absorbs m.join m.meet a _ (l.join_absorbs_meet (i.element a) (i.element b) p q);
      }
