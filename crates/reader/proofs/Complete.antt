-- What is written is read: a written term whose nodes fit is granted.
use Rattle.std.proofs.Common.{◌≡◌, ℕ, zero, suc, ◌+◌, ◌-◌, ◌<◌, ◌≤◌, true, false, cond, ltb, List, [], ◌∷◌, ◌++◌, length, drop, Some, None, Ok, Err, Option, sym, refl, ap, ◌∙◌, subst, append_assoc, append-nil, arith, length-append, length-drop}
use Rattle.std.proofs.lemmas.List.{length_push}
use Rattle.std.proofs.lemmas.Bool.Decides.{nat_tests}
use Rattle.free_lattice.specs.Terms.{Term}
use Rattle.sheet.specs.declared.node.Node.{Node}
use Rattle.sheet.specs.declared.node.Node.TheVariants as node
use Rattle.sheet.specs.Nodes.{find}
use Rattle.refused.specs.Refused.{refused}
use Rattle.sheet.specs.Enter.{numbered, grown}
use Rattle.reader.specs.declared.token.Kind.{Kind}
use Rattle.reader.specs.declared.token.Kind.TheVariants.{Open, Close, Variable}
use Rattle.reader.specs.declared.token.Token.{Token}
use Rattle.reader.specs.declared.reader.Sign.{Sign}
use Rattle.reader.specs.declared.reader.Sign.TheVariants as sign
use Rattle.reader.specs.declared.reader.Held.{Held}
use Rattle.reader.specs.declared.reader.Held.TheVariants.{Nothing, One, Several}
use Rattle.reader.specs.Cutting.{behind, blanks}
use Rattle.reader.specs.Reading.{Outcome, ended, bind, refuse, or_end, enter_at, placed_at, sign_of, pair, several, add_part, close_list, is_close, read_parts, read_list, by_kind, read_term, read_end, read_whole}
use Rattle.reader.specs.Grammar.{Tree, Parts, leaf, list, two, more, combine, term, folded, sign_kind, tokens, all_tokens, depth, depths, Spelled, Written}
use Rattle.reader.proofs.Spelling.{next_cut}
use Rattle.reader.proofs.Reading.{due_some}
use Rattle.reader.proofs.Placing.{Place, put_by, put, placed, combined, put_grows, placed_grows}

-- entering a node where there is room
module _ (n : Node) (p : ℕ) (ns : List Node) (at : ℕ) where
  enters : length (put ns n).nodes ≤ 60 → enter_at n p ns at ≡ ended (Ok (put ns n).number) (put ns n).nodes at
  enters le = go (find ns n) le
    where
      go : (o : Option ℕ) → length (put_by ns n o).nodes ≤ 60 → ended (placed_at p (numbered ns o)) (grown ns n o) at ≡ ended (Ok (put_by ns n o).number) (put_by ns n o).nodes at
      go (Some j) le' = refl
      go None le' =
          let lt : length ns < 60 = omega (arith, length_push ns n) in
          let t : ltb (length ns) 60 ≡ true = grind (arith, nat_tests) in
          ap (λ x. ended (placed_at p (cond x (Ok (length ns)) (Err (refused 8 [])))) (cond x (ns ++ n ∷ []) ns) at) t

-- a term that is written is read
abbrev pub head_of : Tree → Kind
head_of (leaf c) = Variable c
head_of (list s p) = Open

abbrev pub rest_of : Tree → List Kind
rest_of (leaf c) = []
rest_of (list s p) = sign_kind s ∷ (all_tokens p ++ Close ∷ [])

pub split : (t : Tree) → tokens t ≡ head_of t ∷ rest_of t
split (leaf c) = refl
split (list s p) = refl

pub no_close : (t : Tree) → is_close (head_of t) ≡ false
no_close (leaf c) = refl
no_close (list s p) = refl

pub record Done (o : Outcome ℕ) (w : Place) (text : List ℕ) (ks : List Kind) : Type 0 where
  pub place : ℕ
  pub is : o ≡ ended (Ok w.number) w.nodes place
  pub spelled : Spelled (drop place text) ks

abbrev pub Complete : Tree → Type 0
Complete tree = (left : ℕ) → depth tree ≤ left → (text : List ℕ) (t : Token) (ns : List Node) (at : ℕ) (ks : List Kind) → t.kind ≡ head_of tree → Spelled (drop at text) (rest_of tree ++ ks)
    → length (placed ns (term tree)).nodes ≤ 60 → Done (read_term left text t ns at) (placed ns (term tree)) text ks

-- one turn of a list
pub record Turned (left fuel : ℕ) (text : List ℕ) (s : Sign) (held : Held) (ns : List Node) (at : ℕ) (w : Place) (ks : List Kind) : Type 0 where
  pub begins : ℕ
  pub place : ℕ
  pub is : read_parts (suc fuel) (read_term left text) text s held ns at ≡ bind (add_part s held w.number begins w.nodes place) (λ held'. read_parts fuel (read_term left text) text s held')
  pub spelled : Spelled (drop place text) ks

pub turn : (tree : Tree) → Complete tree → (left : ℕ) → depth tree ≤ left → (fuel : ℕ) (text : List ℕ) (s : Sign) (held : Held) (ns : List Node) (at : ℕ) (ks : List Kind) → Spelled (drop at text) (tokens tree ++ ks)
    → length (placed ns (term tree)).nodes ≤ 60 → Turned left fuel text s held ns at (placed ns (term tree)) ks
turn tree complete left deep fuel text s held ns at ks sp fit =
    let at₁ : ℕ = behind at (drop at text) in
    let p : ℕ = at + blanks (drop at text) in
    let t : Token = record { kind = head_of tree; place = p } in
    let n = next_cut text at (head_of tree ∷ (rest_of tree ++ ks)) (subst (λ l. Spelled (drop at text) (l ++ ks)) (split tree) sp) in
    let d = complete left deep text t ns at₁ ks refl n.1 fit in
    record {
      begins = p;
      place = d.place;
      is = due_some text ns at (λ t' ns' at'. cond (is_close t'.kind) (ended (close_list held t'.place) ns' at') (bind (read_term left text t' ns' at') (λ part ns'' at''. bind (add_part s held part t'.place ns'' at'') (λ held'. read_parts fuel (read_term left text) text s held')))) t n.0
          ∙ ap (λ x. cond x (ended (close_list held p) ns at₁) (bind (read_term left text t ns at₁) (λ part ns'' at''. bind (add_part s held part p ns'' at'') (λ held'. read_parts fuel (read_term left text) text s held')))) (no_close tree)
          ∙ ap (λ o. bind o (λ part ns'' at''. bind (add_part s held part p ns'' at'') (λ held'. read_parts fuel (read_term left text) text s held'))) d.is;
      spelled = d.spelled;
    }

abbrev pub how_many : Parts → ℕ
how_many (two a b) = 2
how_many (more p c) = suc (how_many p)

pub record Gone (left fuel : ℕ) (text : List ℕ) (s : Sign) (p : Parts) (ns : List Node) (at : ℕ) (ks : List Kind) : Type 0 where
  pub place : ℕ
  pub is : read_parts (how_many p + fuel) (read_term left text) text s Nothing ns at ≡ read_parts fuel (read_term left text) text s (Several (placed ns (folded p s)).number) (placed ns (folded p s)).nodes place
  pub spelled : Spelled (drop place text) ks

abbrev pub CompleteParts : Parts → Type 0
CompleteParts p = (left : ℕ) → depths p ≤ left → (fuel : ℕ) (text : List ℕ) (s : Sign) (ns : List Node) (at : ℕ) (ks : List Kind) → Spelled (drop at text) (all_tokens p ++ ks)
    → length (placed ns (folded p s)).nodes ≤ 60 → Gone left fuel text s p ns at ks

-- the pair of what is held and one more part
module _ (left fuel : ℕ) (text : List ℕ) (s : Sign) (ns : List Node) (a b : Term) (p at : ℕ) where
  abbrev whole : Place
  whole = placed ns (combine s a b)

  abbrev first : Place
  first = placed ns a

  abbrev second : Place
  second = placed (placed ns a).nodes b

  paired : length whole.nodes ≤ 60 → bind (several (enter_at (pair s first.number second.number) p second.nodes at)) (λ held'. read_parts fuel (read_term left text) text s held')
      ≡ read_parts fuel (read_term left text) text s (Several whole.number) whole.nodes at
  paired fit =
      let e = combined s ns a b in
      let fit' : length (put second.nodes (pair s first.number second.number)).nodes ≤ 60 = subst (λ w. length w.nodes ≤ 60) e fit in
      ap (λ o. bind (several o) (λ held'. read_parts fuel (read_term left text) text s held')) (enters (pair s first.number second.number) p second.nodes at fit')
      ∙ ap (λ w. read_parts fuel (read_term left text) text s (Several w.number) w.nodes at) (sym e)

  fits_first : length whole.nodes ≤ 60 → length first.nodes ≤ 60
  fits_first fit = omega (arith, ap (λ w. length w.nodes) (combined s ns a b), placed_grows b first.nodes, put_grows second.nodes (pair s first.number second.number))

  fits_second : length whole.nodes ≤ 60 → length second.nodes ≤ 60
  fits_second fit = omega (arith, ap (λ w. length w.nodes) (combined s ns a b), put_grows second.nodes (pair s first.number second.number))

two_complete : (a b : Tree) → Complete a → Complete b → CompleteParts (two a b)
two_complete a b ca cb left deep fuel text s ns at ks sp fit =
    let fa = fits_first left fuel text s ns (term a) (term b) 0 at fit in
    let fb = fits_second left fuel text s ns (term a) (term b) 0 at fit in
    let x = turn a ca left (omega arith) (suc fuel) text s Nothing ns at (tokens b ++ ks) (subst (λ l. Spelled (drop at text) l) (append_assoc (tokens a) (tokens b) ks) sp) fa in
    let y = turn b cb left (omega arith) fuel text s (One (placed ns (term a)).number) (placed ns (term a)).nodes x.place ks x.spelled fb in
    let count : 2 + fuel ≡ suc (suc fuel) = omega arith in
    record {
      place = y.place;
      is = ap (λ f. read_parts f (read_term left text) text s Nothing ns at) count ∙ x.is ∙ y.is ∙ paired left fuel text s ns (term a) (term b) y.begins y.place fit;
      spelled = y.spelled;
    }

more_complete : (p : Parts) (c : Tree) → CompleteParts p → Complete c → CompleteParts (more p c)
more_complete p c cp cc' left deep fuel text s ns at ks sp fit =
    let fa = fits_first left fuel text s ns (folded p s) (term c) 0 at fit in
    let fb = fits_second left fuel text s ns (folded p s) (term c) 0 at fit in
    let x = cp left (omega arith) (suc fuel) text s ns at (tokens c ++ ks) (subst (λ l. Spelled (drop at text) l) (append_assoc (all_tokens p) (tokens c) ks) sp) fa in
    let y = turn c cc' left (omega arith) fuel text s (Several (placed ns (folded p s)).number) (placed ns (folded p s)).nodes x.place ks x.spelled fb in
    let count : suc (how_many p) + fuel ≡ how_many p + suc fuel = omega arith in
    record {
      place = y.place;
      is = ap (λ f. read_parts f (read_term left text) text s Nothing ns at) count ∙ x.is ∙ y.is ∙ paired left fuel text s ns (folded p s) (term c) y.begins y.place fit;
      spelled = y.spelled;
    }

spelled_length : {bs : List ℕ} {ks : List Kind} → Spelled bs ks → length ks ≤ length bs
spelled_length Spelled.end = omega arith
spelled_length (Spelled.space s) = omega (arith, spelled_length s)
spelled_length (Spelled.opened s) = omega (arith, spelled_length s)
spelled_length (Spelled.closed s) = omega (arith, spelled_length s)
spelled_length (Spelled.star s) = omega (arith, spelled_length s)
spelled_length (Spelled.plus s) = omega (arith, spelled_length s)
spelled_length (Spelled.letter h s) = omega (arith, spelled_length s)
spelled_length (Spelled.digit h i s) = omega (arith, spelled_length s)
spelled_length (Spelled.digits h i j s) = omega (arith, spelled_length s)

some_tokens : (t : Tree) → 1 ≤ length (tokens t)
some_tokens (leaf c) = omega arith
some_tokens (list s p) = omega arith

few_parts : (p : Parts) → how_many p ≤ length (all_tokens p)
few_parts (two a b) = omega (arith, some_tokens a, some_tokens b, length-append (tokens a) (tokens b))
few_parts (more p c) = omega (arith, few_parts p, some_tokens c, length-append (all_tokens p) (tokens c))

signed_by : (s : Sign) (t : Token) (ns : List Node) (at : ℕ) → sign_of t ns at (sign_kind s) ≡ ended (Ok s) ns at
signed_by sign.Meet t ns at = refl
signed_by sign.Join t ns at = refl

-- a list that is written, behind its sign: what is left of the text, with fuel for all its parts and one more turn
pub record Opened (left : ℕ) (text : List ℕ) (s : Sign) (p : Parts) (ns : List Node) (at : ℕ) (ks : List Kind) : Type 0 where
  pub fuel : ℕ
  pub place : ℕ
  pub is : read_list (read_term left text) text ns at ≡ read_parts (how_many p + suc fuel) (read_term left text) text s Nothing ns place
  pub spelled : Spelled (drop place text) (all_tokens p ++ Close ∷ ks)

pub list_opened : (s : Sign) (p : Parts) (left : ℕ) (text : List ℕ) (ns : List Node) (at : ℕ) (ks : List Kind) → Spelled (drop at text) (sign_kind s ∷ ((all_tokens p ++ Close ∷ []) ++ ks)) → Opened left text s p ns at ks
list_opened s p left text ns at ks sp =
    let at₁ : ℕ = behind at (drop at text) in
    let t : Token = record { kind = sign_kind s; place = at + blanks (drop at text) } in
    let n = next_cut text at (sign_kind s ∷ ((all_tokens p ++ Close ∷ []) ++ ks)) sp in
    let sp₁ : Spelled (drop at₁ text) (all_tokens p ++ Close ∷ ks) = subst (λ l. Spelled (drop at₁ text) l) (append_assoc (all_tokens p) (Close ∷ []) ks) n.1 in
    let few : how_many p ≤ length text = omega (arith, few_parts p, spelled_length sp₁, length-append (all_tokens p) (Close ∷ ks), length-drop at₁ text) in
    let enough : suc (length text) ≡ how_many p + suc (length text - how_many p) = omega arith in
    record {
      fuel = length text - how_many p;
      place = at₁;
      is = ap (λ o. bind o (λ s'. read_parts (suc (length text)) (read_term left text) text s' Nothing)) (due_some text ns at (λ t' ns' at'. sign_of t' ns' at' t'.kind) t n.0 ∙ signed_by s t ns at₁)
          ∙ ap (λ f. read_parts f (read_term left text) text s Nothing ns at₁) enough;
      spelled = sp₁;
    }

list_complete : (s : Sign) (p : Parts) → CompleteParts p → (left : ℕ) → depths p ≤ left → (text : List ℕ) (ns : List Node) (at : ℕ) (ks : List Kind) → Spelled (drop at text) (sign_kind s ∷ ((all_tokens p ++ Close ∷ []) ++ ks))
    → length (placed ns (folded p s)).nodes ≤ 60 → Done (read_list (read_term left text) text ns at) (placed ns (folded p s)) text ks
list_complete s p cp left deep text ns at ks sp fit =
    let o = list_opened s p left text ns at ks sp in
    let g = cp left deep (suc o.fuel) text s ns o.place (Close ∷ ks) o.spelled fit in
    let w : Place = placed ns (folded p s) in
    let at₂ : ℕ = g.place in
    let t₂ : Token = record { kind = Close; place = at₂ + blanks (drop at₂ text) } in
    let m = next_cut text at₂ (Close ∷ ks) g.spelled in
    record {
      place = behind at₂ (drop at₂ text);
      is = o.is ∙ g.is
          ∙ due_some text w.nodes at₂ (λ t' ns' at'. cond (is_close t'.kind) (ended (close_list (Several w.number) t'.place) ns' at') (bind (read_term left text t' ns' at') (λ part ns'' at''. bind (add_part s (Several w.number) part t'.place ns'' at'') (λ held'. read_parts o.fuel (read_term left text) text s held')))) t₂ m.0;
      spelled = m.1;
    }

leaf_complete : (c : ℕ) → Complete (leaf c)
leaf_complete c zero deep text t ns at ks e sp fit = record { place = at; is = ap (by_kind t ns at (refuse 5 t.place ns at)) e ∙ enters (node.Variable c) t.place ns at fit; spelled = sp }
leaf_complete c (suc left) deep text t ns at ks e sp fit = record { place = at; is = ap (by_kind t ns at (read_list (read_term left text) text ns at)) e ∙ enters (node.Variable c) t.place ns at fit; spelled = sp }

tree_complete : (s : Sign) (p : Parts) → CompleteParts p → Complete (list s p)
tree_complete s p cp zero deep text t ns at ks e sp fit = absurd (omega arith)
tree_complete s p cp (suc left) deep text t ns at ks e sp fit =
    let d = list_complete s p cp left (omega arith) text ns at ks sp fit in
    record { place = d.place; is = ap (by_kind t ns at (read_list (read_term left text) text ns at)) e ∙ d.is; spelled = d.spelled }

mutual
  pub term_complete : (tree : Tree) → Complete tree
  term_complete (leaf c) = leaf_complete c
  term_complete (list s p) = tree_complete s p (parts_complete p)

  pub parts_complete : (p : Parts) → CompleteParts p
  parts_complete (two a b) = two_complete a b (term_complete a) (term_complete b)
  parts_complete (more p c) = more_complete p c (parts_complete p) (term_complete c)

pub whole_complete : (text : List ℕ) (ns : List Node) (tree : Tree) → Written text tree → length (placed ns (term tree)).nodes ≤ 60
    → (at' : ℕ) × (read_whole text ns 0 ≡ ended (Ok (placed ns (term tree)).number) (placed ns (term tree)).nodes at')
whole_complete text ns tree wr fit =
    let p : ℕ = 0 + blanks text in
    let at₁ : ℕ = behind 0 text in
    let t : Token = record { kind = head_of tree; place = p } in
    let w : Place = placed ns (term tree) in
    let n = next_cut text 0 (head_of tree ∷ (rest_of tree ++ [])) (subst (λ l. Spelled text l) (split tree ∙ ap (λ l. head_of tree ∷ l) (sym (append-nil (rest_of tree)))) wr.spelled) in
    let d = term_complete tree 16 wr.shallow text t ns at₁ [] refl n.1 fit in
    let at₂ : ℕ = d.place in
    let m = next_cut text at₂ [] d.spelled in (
      behind at₂ (drop at₂ text),
      due_some text ns 0 (λ t' ns' at'. bind (read_term 16 text t' ns' at') (read_end text)) t n.0
          ∙ ap (λ o'. bind o' (read_end text)) d.is
          ∙ ap (λ r. bind (ended r w.nodes (behind at₂ (drop at₂ text))) (λ o ns''' at'''. or_end o (ended (Ok w.number) ns''' at''') (λ extra. refuse 7 extra.place ns''' at'''))) m,
    )
