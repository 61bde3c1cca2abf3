-- A written term whose nodes do not fit is refused as the sheet is full.
use Rattle.std.proofs.Common.{◌≡◌, ℕ, zero, suc, ◌+◌, ◌<◌, ◌≤◌, false, cond, ltb, ◌⊎◌, List, [], ◌∷◌, ◌++◌, length, drop, Some, None, Ok, Err, Option, sym, refl, ap, ◌∙◌, subst, ⊎_elim, append_assoc, append-nil, arith}
use Rattle.std.proofs.lemmas.List.{length_push}
use Rattle.std.proofs.lemmas.Bool.Decides.{nat_tests}
use Rattle.free_lattice.specs.Terms.{Term}
use Rattle.sheet.specs.declared.node.Node.{Node}
use Rattle.sheet.specs.declared.node.Node.TheVariants as node
use Rattle.sheet.specs.Nodes.{find}
use Rattle.refused.specs.Refused.{refused}
use Rattle.sheet.specs.Enter.{numbered, grown}
use Rattle.reader.specs.declared.token.Kind.{Kind}
use Rattle.reader.specs.declared.token.Kind.TheVariants.{Close}
use Rattle.reader.specs.declared.token.Token.{Token}
use Rattle.reader.specs.declared.reader.Sign.{Sign}
use Rattle.reader.specs.declared.reader.Held.{Held}
use Rattle.reader.specs.declared.reader.Held.TheVariants.{Nothing, One, Several}
use Rattle.reader.specs.Faults.{by_sheet}
use Rattle.reader.specs.Cutting.{behind, blanks}
use Rattle.reader.specs.Reading.{Outcome, ended, bind, refuse, enter_at, placed_at, pair, several, add_part, close_list, is_close, read_parts, read_list, by_kind, read_term, read_end, read_whole}
use Rattle.reader.specs.Grammar.{Tree, Parts, leaf, list, two, more, combine, term, folded, sign_kind, tokens, all_tokens, depth, depths, Spelled, Written}
use Rattle.reader.proofs.Spelling.{next_cut}
use Rattle.reader.proofs.Reading.{due_some}
use Rattle.reader.proofs.Placing.{Place, put_by, put, placed, combined}
use Rattle.reader.proofs.Complete.{head_of, rest_of, split, no_close, turn, how_many, term_complete, parts_complete, list_opened}

pub record Fails {A : Type 0} (o : Outcome A) : Type 0 where
  pub begins : ℕ
  pub nodes : List Node
  pub place : ℕ
  pub is : o ≡ ended (Err (by_sheet 8 begins)) nodes place

fails_at : {A : Type 0} {o o' : Outcome A} → o ≡ o' → Fails o' → Fails o
fails_at e f = record { begins = f.begins; nodes = f.nodes; place = f.place; is = e ∙ f.is }

fails_bind : {A B : Type 0} (o : Outcome A) (k : A → List Node → ℕ → Outcome B) → Fails o → Fails (bind o k)
fails_bind o k f = record { begins = f.begins; nodes = f.nodes; place = f.place; is = ap (λ x. bind x k) f.is }

room : (n : ℕ) → (n ≤ 60) ⊎ (60 < n)
room n = grind arith

overflows : (n : Node) (p : ℕ) (ns : List Node) (at : ℕ) → length ns ≤ 60 → 60 < length (put ns n).nodes → Fails (enter_at n p ns at)
overflows n p ns at le lt = go (find ns n) lt
  where
    go : (o : Option ℕ) → 60 < length (put_by ns n o).nodes → Fails (ended (placed_at p (numbered ns o)) (grown ns n o) at)
    go (Some k) lt' = absurd (omega arith)
    go None lt' =
        let no_room : ltb (length ns) 60 ≡ false = let all : 60 ≤ length ns = omega (arith, length_push ns n) in grind (arith, nat_tests) in
        record { begins = p; nodes = ns; place = at; is = ap (λ x. ended (placed_at p (cond x (Ok (length ns)) (Err (refused 8 [])))) (cond x (ns ++ n ∷ []) ns) at) no_room }

abbrev Over : Tree → Type 0
Over tree = (left : ℕ) → depth tree ≤ left → (text : List ℕ) (t : Token) (ns : List Node) (at : ℕ) (ks : List Kind) → t.kind ≡ head_of tree → Spelled (drop at text) (rest_of tree ++ ks)
    → length ns ≤ 60 → 60 < length (placed ns (term tree)).nodes → Fails (read_term left text t ns at)

turn_over : (tree : Tree) → Over tree → (left : ℕ) → depth tree ≤ left → (fuel : ℕ) (text : List ℕ) (s : Sign) (held : Held) (ns : List Node) (at : ℕ) (ks : List Kind) → Spelled (drop at text) (tokens tree ++ ks)
    → length ns ≤ 60 → 60 < length (placed ns (term tree)).nodes → Fails (read_parts (suc fuel) (read_term left text) text s held ns at)
turn_over tree over left deep fuel text s held ns at ks sp le lt =
    let at₁ : ℕ = behind at (drop at text) in
    let p : ℕ = at + blanks (drop at text) in
    let t : Token = record { kind = head_of tree; place = p } in
    let n = next_cut text at (head_of tree ∷ (rest_of tree ++ ks)) (subst (λ l. Spelled (drop at text) (l ++ ks)) (split tree) sp) in
    fails_at
    (due_some text ns at (λ t' ns' at'. cond (is_close t'.kind) (ended (close_list held t'.place) ns' at') (bind (read_term left text t' ns' at') (λ part ns'' at''. bind (add_part s held part t'.place ns'' at'') (λ held'. read_parts fuel (read_term left text) text s held')))) t n.0
    ∙ ap (λ x. cond x (ended (close_list held p) ns at₁) (bind (read_term left text t ns at₁) (λ part ns'' at''. bind (add_part s held part p ns'' at'') (λ held'. read_parts fuel (read_term left text) text s held')))) (no_close tree))
    (fails_bind (read_term left text t ns at₁) _ (over left deep text t ns at₁ ks refl n.1 le lt))

abbrev OverParts : Parts → Type 0
OverParts p = (left : ℕ) → depths p ≤ left → (fuel : ℕ) (text : List ℕ) (s : Sign) (ns : List Node) (at : ℕ) (ks : List Kind) → Spelled (drop at text) (all_tokens p ++ ks)
    → length ns ≤ 60 → 60 < length (placed ns (folded p s)).nodes → Fails (read_parts (how_many p + fuel) (read_term left text) text s Nothing ns at)

-- one more part, where what is held fits and the pair does not
module _ (left fuel : ℕ) (text : List ℕ) (s : Sign) (ns : List Node) (a : Term) (c : Tree) (over : Over c) (deep : depth c ≤ left) (held : Held) (at : ℕ) (ks : List Kind) where
  abbrev first : Place
  first = placed ns a

  next_over : ((part p : ℕ) (ns' : List Node) (at' : ℕ) → add_part s held part p ns' at' ≡ several (enter_at (pair s first.number part) p ns' at'))
      → Spelled (drop at text) (tokens c ++ ks) → length first.nodes ≤ 60 → 60 < length (placed ns (combine s a (term c))).nodes
      → Fails (read_parts (suc fuel) (read_term left text) text s held first.nodes at)
  next_over is sp le lt =
      ⊎_elim
      (λ fit.
      let y = turn c (term_complete c) left deep fuel text s held first.nodes at ks sp fit in
      let w : Place = placed first.nodes (term c) in
      let lt' : 60 < length (put w.nodes (pair s first.number w.number)).nodes = omega (arith, ap (λ x. length x.nodes) (combined s ns a (term c))) in
      fails_at (y.is ∙ ap (λ o. bind o (λ held'. read_parts fuel (read_term left text) text s held')) (is w.number y.begins w.nodes y.place))
      (fails_bind _ _ (fails_bind _ _ (overflows (pair s first.number w.number) y.begins w.nodes y.place fit lt'))))
      (λ more_than. turn_over c over left deep fuel text s held first.nodes at ks sp le more_than)
      (room (length (placed first.nodes (term c)).nodes))

two_over : (a b : Tree) → Over a → Over b → OverParts (two a b)
two_over a b oa ob left deep fuel text s ns at ks sp le lt =
    let count : 2 + fuel ≡ suc (suc fuel) = omega arith in
    let sp' : Spelled (drop at text) (tokens a ++ (tokens b ++ ks)) = subst (λ l. Spelled (drop at text) l) (append_assoc (tokens a) (tokens b) ks) sp in
    fails_at (ap (λ f. read_parts f (read_term left text) text s Nothing ns at) count)
    (⊎_elim
    (λ fit.
    let x = turn a (term_complete a) left (omega arith) (suc fuel) text s Nothing ns at (tokens b ++ ks) sp' fit in
    fails_at x.is (next_over left fuel text s ns (term a) b ob (omega arith) (One (placed ns (term a)).number) x.place ks (λ part p ns' at'. refl) x.spelled fit lt))
    (λ more_than. turn_over a oa left (omega arith) (suc fuel) text s Nothing ns at (tokens b ++ ks) sp' le more_than)
    (room (length (placed ns (term a)).nodes)))

more_over : (p : Parts) (c : Tree) → OverParts p → Over c → OverParts (more p c)
more_over p c op oc left deep fuel text s ns at ks sp le lt =
    let count : suc (how_many p) + fuel ≡ how_many p + suc fuel = omega arith in
    let sp' : Spelled (drop at text) (all_tokens p ++ (tokens c ++ ks)) = subst (λ l. Spelled (drop at text) l) (append_assoc (all_tokens p) (tokens c) ks) sp in
    fails_at (ap (λ f. read_parts f (read_term left text) text s Nothing ns at) count)
    (⊎_elim
    (λ fit.
    let x = parts_complete p left (omega arith) (suc fuel) text s ns at (tokens c ++ ks) sp' fit in
    fails_at x.is (next_over left fuel text s ns (folded p s) c oc (omega arith) (Several (placed ns (folded p s)).number) x.place ks (λ part q ns' at'. refl) x.spelled fit lt))
    (λ more_than. op left (omega arith) (suc fuel) text s ns at (tokens c ++ ks) sp' le more_than)
    (room (length (placed ns (folded p s)).nodes)))

list_over : (s : Sign) (p : Parts) → OverParts p → (left : ℕ) → depths p ≤ left → (text : List ℕ) (ns : List Node) (at : ℕ) (ks : List Kind) → Spelled (drop at text) (sign_kind s ∷ ((all_tokens p ++ Close ∷ []) ++ ks))
    → length ns ≤ 60 → 60 < length (placed ns (folded p s)).nodes → Fails (read_list (read_term left text) text ns at)
list_over s p op left deep text ns at ks sp le lt =
    let o = list_opened s p left text ns at ks sp in
    fails_at o.is (op left deep (suc o.fuel) text s ns o.place (Close ∷ ks) o.spelled le lt)

leaf_over : (c : ℕ) → Over (leaf c)
leaf_over c zero deep text t ns at ks e sp le lt = fails_at (ap (by_kind t ns at (refuse 5 t.place ns at)) e) (overflows (node.Variable c) t.place ns at le lt)
leaf_over c (suc left) deep text t ns at ks e sp le lt = fails_at (ap (by_kind t ns at (read_list (read_term left text) text ns at)) e) (overflows (node.Variable c) t.place ns at le lt)

tree_over : (s : Sign) (p : Parts) → OverParts p → Over (list s p)
tree_over s p op zero deep text t ns at ks e sp le lt = absurd (omega arith)
tree_over s p op (suc left) deep text t ns at ks e sp le lt = fails_at (ap (by_kind t ns at (read_list (read_term left text) text ns at)) e) (list_over s p op left (omega arith) text ns at ks sp le lt)

mutual
  term_over : (tree : Tree) → Over tree
  term_over (leaf c) = leaf_over c
  term_over (list s p) = tree_over s p (parts_over p)

  parts_over : (p : Parts) → OverParts p
  parts_over (two a b) = two_over a b (term_over a) (term_over b)
  parts_over (more p c) = more_over p c (parts_over p) (term_over c)

pub whole_over : (text : List ℕ) (ns : List Node) (tree : Tree) → Written text tree → length ns ≤ 60 → 60 < length (placed ns (term tree)).nodes → Fails (read_whole text ns 0)
whole_over text ns tree wr le lt =
    let at₁ : ℕ = behind 0 text in
    let t : Token = record { kind = head_of tree; place = 0 + blanks text } in
    let n = next_cut text 0 (head_of tree ∷ (rest_of tree ++ [])) (subst (λ l. Spelled text l) (split tree ∙ ap (λ l. head_of tree ∷ l) (sym (append-nil (rest_of tree)))) wr.spelled) in
    fails_at
    (due_some text ns 0 (λ t' ns' at'. bind (read_term 16 text t' ns' at') (read_end text)) t n.0)
    (fails_bind (read_term 16 text t ns at₁) _ (term_over tree 16 wr.shallow text t ns at₁ [] refl n.1 le lt))
