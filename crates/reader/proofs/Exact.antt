-- The law of reading holds.
use Rattle.std.proofs.Common.{◌≡◌, ℕ, ◌≤◌, List, [], ◌∷◌, ◌++◌, length, Ok, Err, sym, refl, ap, ◌∙◌, subst, arith}
use Rattle.free_lattice.specs.Terms.{Term, subterms}
use Rattle.sheet.specs.Nodes.{Grounded, Distinct, terms, term_at}
use Rattle.sheet.specs.State.{State, count}
use Rattle.sheet.proofs.Terms.{terms_length}
use Rattle.reader.specs.declared.token.Kind.{Kind}
use Rattle.reader.specs.declared.token.Kind.TheVariants.{Close}
use Rattle.reader.specs.declared.reader.Sign.{Sign}
use Rattle.reader.specs.declared.reader.Sign.TheVariants as sign
use Rattle.reader.specs.Reading.{Outcome, ended, read_whole, finished, reading, Known}
use Rattle.reader.specs.Grammar.{Tree, Parts, leaf, list, two, more, combine, term, folded, tokens, all_tokens, Spelled, end, space, opened, closed, star, plus, letter, digit, digits, Written}
use Rattle.reader.specs.Exact.{Adds, Stands, Taken, Exact}
use Rattle.reader.proofs.Placing.{placed, Coded, placed_good}
use Rattle.reader.proofs.Sound.{whole_sound}
use Rattle.reader.proofs.Complete.{whole_complete}
use Rattle.reader.proofs.Overfull.{whole_over}
use Rattle.reader.proofs.Unambiguous.{one_tree}

-- the codes of what is spelled are codes that there are
abbrev AllKnown : List Kind → Type 0
AllKnown [] = Unit {0}
AllKnown (k ∷ ks) = Known k × AllKnown ks

spelled_known : {bs : List ℕ} {ks : List Kind} → Spelled bs ks → AllKnown ks
spelled_known end = tt
spelled_known (space s) = spelled_known s
spelled_known (opened s) = (tt, spelled_known s)
spelled_known (closed s) = (tt, spelled_known s)
spelled_known (star s) = (tt, spelled_known s)
spelled_known (plus s) = (tt, spelled_known s)
spelled_known (letter h s) = (omega (arith, h.1), spelled_known s)
spelled_known (digit h i s) = (omega (arith, h.1, i.1), spelled_known s)
spelled_known (digits h i j s) = (omega (arith, h.1, i.1, j.1), spelled_known s)

known_apart : (xs ys : List Kind) → AllKnown (xs ++ ys) → AllKnown xs × AllKnown ys
known_apart [] ys h = (tt, h)
known_apart (x ∷ xs) ys h = let r = known_apart xs ys h.1 in ((h.0, r.0), r.1)

combine_coded : (s : Sign) (a b : Term) → Coded a → Coded b → Coded (combine s a b)
combine_coded sign.Meet a b h i = (h, i)
combine_coded sign.Join a b h i = (h, i)

mutual
  tree_coded : (t : Tree) → AllKnown (tokens t) → Coded (term t)
  tree_coded (leaf c) h = h.0
  tree_coded (list s p) h = parts_coded p s (known_apart (all_tokens p) (Close ∷ []) h.1.1).0

  parts_coded : (p : Parts) (s : Sign) → AllKnown (all_tokens p) → Coded (folded p s)
  parts_coded (two a b) s h = let r = known_apart (tokens a) (tokens b) h in combine_coded s _ _ (tree_coded a r.0) (tree_coded b r.1)
  parts_coded (more p c) s h = let r = known_apart (all_tokens p) (tokens c) h in combine_coded s _ _ (parts_coded p s r.0) (tree_coded c r.1)

written_coded : (text : List ℕ) (t : Tree) → Written text t → Coded (term t)
written_coded text t w = tree_coded t (spelled_known w.spelled)

module _ (text : List ℕ) (S : State) (few : count S ≤ 60) (grounded : Grounded S.nodes) (distinct : Distinct S.nodes) where
  granted : (o : Outcome ℕ) → read_whole text S.nodes 0 ≡ o → (k : ℕ) → (finished S o).1 ≡ Ok k → Stands text S.nodes (finished S o).0.nodes k
  granted (ended (Err f) ns at) e k h = absurd (cc)
  granted (ended (Ok j) ns at) e k h =
      let j_is : j ≡ k = cc in
      let w = whole_sound text S.nodes few j ns at e in
      let t : Term = term w.tree in
      let g = placed_good t (written_coded text w.tree w.written) S.nodes grounded distinct in
      let number : k ≡ (placed S.nodes t).number = sym j_is ∙ w.number in
      record {
        tree = w.tree;
        written = w.written;
        there = omega (arith, g.there, number, ap length w.nodes);
        means = ap (λ l. term_at l k) w.nodes ∙ ap (term_at (placed S.nodes t).nodes) number ∙ g.means;
        adds = subst (λ l. Adds (terms S.nodes) (subterms t) (terms l)) (sym w.nodes) g.adds;
        fits = w.few;
      }

  taken : (t : Tree) → Written text t → Taken S.nodes t (reading S text).1
  taken t w =
      let p = placed S.nodes (term t) in
      let long = terms_length p.nodes in
      record {
        after = terms p.nodes;
        adds = (placed_good (term t) (written_coded text t w) S.nodes grounded distinct).adds;
        fits = λ fit. (p.number, ap (λ o. (finished S o).1) (whole_complete text S.nodes t w (omega (arith, long))).1);
        full = λ over. let f = whole_over text S.nodes t w few (omega (arith, long)) in (f.begins, ap (λ o. (finished S o).1) f.is);
      }

  pub exact : Exact text S.nodes (reading S text).0.nodes (reading S text).1
  exact = record { granted = granted (read_whole text S.nodes 0) refl; written = taken; one_tree = one_tree text }
