-- An order whose meets and joins are greatest lower and least upper bounds has the laws of a lattice.
-- What is shown of infima holds of suprema, in the order turned over.
use mathlib.Core.Path.{◌≡◌, subst}
use Rattle.free_lattice.specs.Lattices.{Meaning, Laws, Below}
use Rattle.free_lattice.specs.Bounds.{Infimum, Supremum, turned, Order, Bounded}

turned_order : {E : Type 0} {P : E → Type 0} {le : E → E → Type 0} → Order P le → Order P (turned le)
turned_order o =
    record {
      reflexive = o.reflexive;
      transitive = λ a b c p q r x y. o.transitive c b a r q p y x;
      antisymmetric = λ a b p q x y. o.antisymmetric a b p q y x;
    }

module _ {E : Type 0} {P : E → Type 0} {le : E → E → Type 0} (o : Order P le) (op : E → E → E) (inf : (a b : E) → P a → P b → Infimum P le a b (op a b)) where
  comm_below : (a b : E) → P a → P b → le (op a b) (op b a)
  comm_below a b p q = let i = inf a b p q in (inf b a q p).greatest (op a b) i.among i.lower_right i.lower_left

  comm : (a b : E) → P a → P b → op a b ≡ op b a
  comm a b p q = o.antisymmetric _ _ (inf a b p q).among (inf b a q p).among (comm_below a b p q) (comm_below b a q p)

  assoc : (a b c : E) → P a → P b → P c → op (op a b) c ≡ op a (op b c)
  assoc a b c p q r =
      let ab = inf a b p q in
      let bc = inf b c q r in
      let left = inf (op a b) c ab.among r in
      let right = inf a (op b c) p bc.among in
      let l = left.among in
      let k = right.among in
      o.antisymmetric _ _ l k
      (right.greatest _ l (o.transitive _ _ _ l ab.among p left.lower_left ab.lower_left)
      (bc.greatest _ l (o.transitive _ _ _ l ab.among q left.lower_left ab.lower_right) left.lower_right))
      (left.greatest _ k (ab.greatest _ k right.lower_left (o.transitive _ _ _ k bc.among q right.lower_right bc.lower_left))
      (o.transitive _ _ _ k bc.among r right.lower_right bc.lower_right))

  absorbs : (op' : E → E → E) → ((a b : E) → P a → P b → Supremum P le a b (op' a b)) → (a b : E) → P a → P b → op a (op' a b) ≡ a
  absorbs op' sup a b p q =
      let s = sup a b p q in
      let i = inf a (op' a b) p s.among in
      o.antisymmetric _ _ i.among p i.lower_left (i.greatest a p (o.reflexive a p) s.lower_left)

module _ {E : Type 0} {m : Meaning E} {le : E → E → Type 0} (h : Bounded m le) where
  pub laws_of_bounded : Laws m
  laws_of_bounded =
      record {
        meet_admitted = λ a b p q. (h.infima a b p q).among;
        join_admitted = λ a b p q. (h.suprema a b p q).among;
        meet_comm = comm h.order m.meet h.infima;
        join_comm = comm (turned_order h.order) m.join h.suprema;
        meet_assoc = assoc h.order m.meet h.infima;
        join_assoc = assoc (turned_order h.order) m.join h.suprema;
        meet_absorbs_join = absorbs h.order m.meet h.infima m.join h.suprema;
        join_absorbs_meet = absorbs (turned_order h.order) m.join h.suprema m.meet h.infima;
      }

  pub below_of_le : (a b : E) → m.admitted a → m.admitted b → le a b → Below m a b
  below_of_le a b p q x =
      let i = h.infima a b p q in
      h.order.antisymmetric _ _ i.among p i.lower_left (i.greatest a p (h.order.reflexive a p) x)

  pub le_of_below : (a b : E) → m.admitted a → m.admitted b → Below m a b → le a b
  le_of_below a b p q e = subst (λ x. le x b) e (h.infima a b p q).lower_right
