-- What one turn of a fill adds: one more slot.
use Rattle.std.proofs.Common.{◌≡◌, ℕ, ◌+◌, ◌<◌, ◌≢◌, List, length, get_or, set, sym, ap, ◌∙◌, subst, ap₂, ⊎_elim, arith}
use Rattle.std.proofs.lemmas.List.{get_or_default, get_or-set_same, get_or-set_other}
use Rattle.free_lattice.specs.Lattices.{Meaning}
use Rattle.lattice.specs.declared.lattice.Lattice.{Ghosts}
use Rattle.sheet.specs.declared.node.Node.{Node}
use Rattle.sheet.specs.declared.node.Node.TheVariants.{Variable}
use Rattle.sheet.specs.Nodes.{node_at}
use Rattle.sheet.specs.View.{nodes_of}
use Rattle.sheet.proofs.Nodes.{order}
use Rattle.trying.specs.declared.trying.Trial.{Trial}
use Rattle.trying.specs.Trying.{put, filled, Admitted}
use Rattle.trying.specs.Trials.{means, nodes, AllReady, Kept, Fills}
use Rattle.trying.proofs.Slots.{one_more, untouched}

-- what holds below k and at k
up_to : (P : ℕ → Type 0) (k : ℕ) → ((j : ℕ) → j < k → P j) → P k → (j : ℕ) → j < k + 1 → P j
up_to P k below here j lt = ⊎_elim (below j) (λ e. subst P (sym e) here) (order j k lt)

admitted_more : {E : Type 0} (m : Meaning E) (k : ℕ) (t : List E) → Admitted m k t → ((d : E) → m.admitted (get_or t k d)) → Admitted m (k + 1) t
admitted_more m k t below here d = up_to (λ i. m.admitted (get_or t i d)) k (below d) (here d)

module _ {L E : Type 0} {g : Ghosts L E} (before now after : Trial L E g) (k : ℕ) (so_far : Fills k before now) (kept : Kept now after) where
  all_kept : Kept before after
  all_kept =
      record {
        lattice = kept.lattice ∙ so_far.kept.lattice;
        sheet = kept.sheet ∙ so_far.kept.sheet;
        end = kept.end ∙ so_far.kept.end;
        lender = kept.lender ∙ so_far.kept.lender;
      }

  -- the node that a turn finds
  found : (n : Node) → n ≡ node_at (nodes now) k → n ≡ node_at (nodes before) k
  found n e = e ∙ ap (λ x. node_at (nodes_of x.now) k) so_far.kept.sheet

  -- at a variable the slots stay
  pub turn_variable : (c : ℕ) → Variable c ≡ node_at (nodes now) k → k < before.end → AllReady before → after.slots.now ≡ now.slots.now → Fills (k + 1) before after
  turn_variable c e lt ready same =
      let m = means before in
      let ns = nodes before in
      let s = before.slots.now in
      let is = found (Variable c) e in
      record {
        kept = all_kept;
        slots = λ d. same ∙ so_far.slots d ∙ sym (one_more m.meet m.join d ns s k ∙ ap (λ x. put m.meet m.join d k x (filled m.meet m.join d ns k s)) (sym is));
        admitted = subst (Admitted m (k + 1)) (sym same)
            (admitted_more m k now.slots.now so_far.admitted (λ d. subst m.admitted (sym (ap (λ l. get_or l k d) (so_far.slots d) ∙ untouched m.meet m.join d ns s k k d (omega arith))) (ready d k c lt (sym is))));
      }

  -- at a meet or a join of a and b, put together by op, slot k becomes r, what the lattice answered for the slots x and y of its parts
  pub turn_made : (op : E → E → E) → ((x y : E) → (means before).admitted x → (means before).admitted y → (means before).admitted (op x y)) → (n : Node) (a b : ℕ)
      → ((d : E) (l : List E) → put (means before).meet (means before).join d k n l ≡ set l k (op (get_or l a d) (get_or l b d))) → n ≡ node_at (nodes now) k → (a < k) × (b < k)
      → (x y r : E) → k < length now.slots.now → x ≡ get_or now.slots.now a x → y ≡ get_or now.slots.now b y
      → ((means before).admitted x → (means before).admitted y → r ≡ op x y) → after.slots.now ≡ set now.slots.now k r → Fills (k + 1) before after
  turn_made op closed n a b puts e (la, lb) x y r lt ex ey er same =
      let m = means before in
      let ns = nodes before in
      let t = now.slots.now in
      let px : m.admitted x = subst m.admitted (sym ex) (so_far.admitted x a la) in
      let py : m.admitted y = subst m.admitted (sym ey) (so_far.admitted y b lb) in
      let is : r ≡ op x y = er px py in
      let xa : (d : E) → x ≡ get_or t a d = λ d. ex ∙ get_or_default t a x d (omega arith) in
      let yb : (d : E) → y ≡ get_or t b d = λ d. ey ∙ get_or_default t b y d (omega arith) in
      record {
        kept = all_kept;
        slots = λ d.
            same ∙ ap (set t k) (is ∙ ap₂ op (xa d) (yb d)) ∙ sym (puts d t) ∙ ap₂ (put m.meet m.join d k) (found n e) (so_far.slots d)
            ∙ sym (one_more m.meet m.join d ns before.slots.now k);
        admitted = subst (Admitted m (k + 1)) (sym same)
            (admitted_more m k (set t k r)
            (λ d j h. let ne : j ≢ k = omega arith in subst m.admitted (sym (get_or-set_other t k j r d ne)) (so_far.admitted d j h))
            (λ d. subst m.admitted (sym (get_or-set_same t k r d lt ∙ is)) (closed x y px py)));
      }
