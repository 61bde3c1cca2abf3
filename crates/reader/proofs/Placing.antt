-- Placing a term: its parts are entered before it, the left one first. This is what reading a written term does to the nodes.
--   put ns n       the nodes after n was entered without regard to room, and its number
--   placed ns t    the same for a term
--   Good           what was placed is there, its node has the term, and exactly the missing terms were added
use Rattle.std.proofs.Common.{◌≡◌, ℕ, zero, suc, ◌<◌, ◌≤◌, true, List, [], ◌∷◌, ◌++◌, length, get_or, Some, None, Option, sym, refl, ap, ◌∙◌, subst, ap₂, ⊎_elim, append_assoc, append-nil, arith, length-append}
use Rattle.std.proofs.lemmas.List.{length_push}
use Rattle.free_lattice.specs.Terms.{Term, var, meet, join, subterms}
use Rattle.sheet.specs.declared.node.Node.{Node}
use Rattle.sheet.specs.declared.node.Node.TheVariants as node
use Rattle.sheet.specs.Nodes.{find, fits, node_at, Grounded, Distinct, term_of, terms, term_at}
use Rattle.sheet.proofs.Nodes.{found, not_found, order, grounded_more, distinct_more}
use Rattle.sheet.proofs.Terms.{terms_length, terms_push, term_stays, term_is, parts_below, below_fits, code_fits, fits_more}
use Rattle.sheet.proofs.Enter.{entered_old, entered_new}
use Rattle.reader.specs.declared.reader.Sign.{Sign}
use Rattle.reader.specs.declared.reader.Sign.TheVariants as sign
use Rattle.reader.specs.Reading.{pair}
use Rattle.reader.specs.Grammar.{combine}
use Rattle.reader.specs.Exact.{Has, Adds, done, old, new}

pub record Place : Type 0 where
  pub nodes : List Node
  pub number : ℕ

abbrev pub put_by : List Node → Node → Option ℕ → Place
put_by ns n (Some k) = record { nodes = ns; number = k }
put_by ns n None = record { nodes = ns ++ n ∷ []; number = length ns }

abbrev pub put : List Node → Node → Place
put ns n = put_by ns n (find ns n)

abbrev pub put_two : (ℕ → ℕ → Node) → ℕ → Place → Place
put_two kind a q = put q.nodes (kind a q.number)

abbrev pub placed : List Node → Term → Place
placed ns (var c) = put ns (node.Variable c)
placed ns (meet a b) = put_two node.Meet (placed ns a).number (placed (placed ns a).nodes b)
placed ns (join a b) = put_two node.Join (placed ns a).number (placed (placed ns a).nodes b)

pub combined : (s : Sign) (ns : List Node) (a b : Term) → placed ns (combine s a b) ≡ put (placed (placed ns a).nodes b).nodes (pair s (placed ns a).number (placed (placed ns a).nodes b).number)
combined sign.Meet ns a b = refl
combined sign.Join ns a b = refl

-- a node that was put is there, and no node is lost
pub put_there : (ns : List Node) (n : Node) → (put ns n).number < length (put ns n).nodes
put_there ns n = go (find ns n) refl
  where
    go : (o : Option ℕ) → find ns n ≡ o → (put_by ns n o).number < length (put_by ns n o).nodes
    go (Some k) e = (found ns k n e).0
    go None e = omega (arith, length_push ns n)

pub put_grows : (ns : List Node) (n : Node) → length ns ≤ length (put ns n).nodes
put_grows ns n = go (find ns n)
  where
    go : (o : Option ℕ) → length ns ≤ length (put_by ns n o).nodes
    go (Some k) = omega arith
    go None = omega (arith, length_push ns n)

pub placed_there : (t : Term) (ns : List Node) → (placed ns t).number < length (placed ns t).nodes
placed_there (var c) ns = put_there ns (node.Variable c)
placed_there (meet a b) ns = put_there (placed (placed ns a).nodes b).nodes (node.Meet (placed ns a).number (placed (placed ns a).nodes b).number)
placed_there (join a b) ns = put_there (placed (placed ns a).nodes b).nodes (node.Join (placed ns a).number (placed (placed ns a).nodes b).number)

pub placed_grows : (t : Term) (ns : List Node) → length ns ≤ length (placed ns t).nodes
placed_grows (var c) ns = put_grows ns (node.Variable c)
placed_grows (meet a b) ns = omega (arith, placed_grows a ns, placed_grows b (placed ns a).nodes, put_grows (placed (placed ns a).nodes b).nodes (node.Meet (placed ns a).number (placed (placed ns a).nodes b).number))
placed_grows (join a b) ns = omega (arith, placed_grows a ns, placed_grows b (placed ns a).nodes, put_grows (placed (placed ns a).nodes b).nodes (node.Join (placed ns a).number (placed (placed ns a).nodes b).number))

adds_append : {ts us vs : List Term} (xs ws : List Term) → Adds ts us vs → Adds vs xs ws → Adds ts (us ++ xs) ws
adds_append xs ws done b = b
adds_append xs ws (old h a) b = old h (adds_append xs ws a b)
adds_append xs ws (new h a) b = new h (adds_append xs ws a b)

-- nodes whose parts' terms differ have terms that differ
module _ (ts : List Term) (m : ℕ) (apart : (i j : ℕ) → i < m → j < m → get_or ts i (var 0) ≡ get_or ts j (var 0) → i ≡ j) where
  made_inj : (x y : Node) → fits m x ≡ true → fits m y ≡ true → term_of ts x ≡ term_of ts y → x ≡ y
  made_inj (node.Variable c) (node.Variable d) f g h = let z : c ≡ d = cc in ap node.Variable z
  made_inj (node.Variable c) (node.Meet a b) f g h = absurd (cc)
  made_inj (node.Variable c) (node.Join a b) f g h = absurd (cc)
  made_inj (node.Meet a b) (node.Variable d) f g h = absurd (cc)
  made_inj (node.Meet a b) (node.Meet x y) f g h =
      let p = parts_below m a b f in
      let q = parts_below m x y g in
      ap₂ node.Meet (apart a x p.0 q.0 cc) (apart b y p.1 q.1 cc)
  made_inj (node.Meet a b) (node.Join x y) f g h = absurd (cc)
  made_inj (node.Join a b) (node.Variable d) f g h = absurd (cc)
  made_inj (node.Join a b) (node.Meet x y) f g h = absurd (cc)
  made_inj (node.Join a b) (node.Join x y) f g h =
      let p = parts_below m a b f in
      let q = parts_below m x y g in
      ap₂ node.Join (apart a x p.0 q.0 cc) (apart b y p.1 q.1 cc)

-- in grounded and distinct nodes no two terms are equal
module _ (ns : List Node) (grounded : Grounded ns) (distinct : Distinct ns) where
  abbrev Apart : ℕ → Type 0
  Apart m = (i j : ℕ) → i < m → j < m → term_at ns i ≡ term_at ns j → i ≡ j

  not_again : (m j : ℕ) → Apart m → m < length ns → j < m → term_at ns m ≡ term_at ns j → ⊥
  not_again m j apart lt below e =
      let lt' : j < length ns = omega arith in
      let made : term_of (terms ns) (node_at ns m) ≡ term_of (terms ns) (node_at ns j) = sym (term_is ns m grounded lt) ∙ e ∙ term_is ns j grounded lt' in
      let one : node_at ns m ≡ node_at ns j = made_inj (terms ns) m apart (node_at ns m) (node_at ns j) (grounded m lt) (fits_more j m (node_at ns j) (grounded j lt') (omega arith)) made in
      omega (arith, distinct m j (lt, lt', one))

  apart : (m : ℕ) → m ≤ length ns → Apart m
  apart zero le i j li lj e = absurd (omega arith)
  apart (suc m) le i j li lj e =
      let d = apart m (omega arith) in
      ⊎_elim
      (λ li'. ⊎_elim (λ lj'. d i j li' lj' e) (λ ej. absurd (not_again m i d (omega arith) li' (sym (e ∙ ap (term_at ns) ej)))) (order j m (omega arith)))
      (λ ei. ⊎_elim (λ lj'. absurd (not_again m j d (omega arith) lj' (sym (ap (term_at ns) ei) ∙ e))) (λ ej. ei ∙ sym ej) (order j m (omega arith)))
      (order i m (omega arith))

  -- so a node that is not there has a term that is not there
  missing : (n : Node) → find ns n ≡ None → fits (length ns) n ≡ true → Has (terms ns) (term_of (terms ns) n) → ⊥
  missing n none f (k, lt, is) =
      let lt' : k < length ns = omega (arith, terms_length ns) in
      let same_node : node_at ns k ≡ n = made_inj (terms ns) (length ns) (apart (length ns) (omega arith)) (node_at ns k) n (fits_more k (length ns) (node_at ns k) (grounded k lt') (omega arith)) f (sym (term_is ns k grounded lt') ∙ is) in
      not_found ns k n none lt' same_node

-- the terms us were offered to the nodes ns
pub record Good (ns : List Node) (w : Place) (t : Term) (us : List Term) : Type 0 where
  pub others : List Node
  pub grown : w.nodes ≡ ns ++ others
  pub grounded : Grounded w.nodes
  pub distinct : Distinct w.nodes
  pub there : w.number < length w.nodes
  pub means : term_at w.nodes w.number ≡ t
  pub adds : Adds (terms ns) us (terms w.nodes)

put_good : (ns : List Node) (n : Node) → Grounded ns → Distinct ns → fits (length ns) n ≡ true → Good ns (put ns n) (term_of (terms ns) n) (term_of (terms ns) n ∷ [])
put_good ns n g d f = go (find ns n) refl
  where
    go : (o : Option ℕ) → find ns n ≡ o → Good ns (put_by ns n o) (term_of (terms ns) n) (term_of (terms ns) n ∷ [])
    go (Some k) e =
        let z = entered_old ns n k g e in
        record {
          others = [];
          grown = sym (append-nil ns);
          grounded = g;
          distinct = d;
          there = z.there;
          means = z.means;
          adds = old (k, omega (arith, terms_length ns, z.there), z.means) done;
        }
    go None e =
        let z = entered_new ns n in
        record {
          others = n ∷ [];
          grown = refl;
          grounded = grounded_more ns n g f;
          distinct = distinct_more ns n d e;
          there = z.there;
          means = z.means;
          adds = new (missing ns g d n e f) (subst (λ l. Adds (terms ns ++ term_of (terms ns) n ∷ []) [] l) (sym (terms_push ns n)) done);
        }

-- a meet or a join of two terms that were placed, one after the other
module _ (kind : ℕ → ℕ → Node) (made : Term → Term → Term) (is : (ts : List Term) (a b : ℕ) → term_of ts (kind a b) ≡ made (get_or ts a (var 0)) (get_or ts b (var 0)))
    (fit : (k a b : ℕ) → a < k → b < k → fits k (kind a b) ≡ true) where
  two_good : (ns : List Node) (p q : Place) (x y : Term) (us vs : List Term) → Good ns p x us → Good p.nodes q y vs → Good ns (put_two kind p.number q) (made x y) (us ++ (vs ++ made x y ∷ []))
  two_good ns p q x y us vs g h =
      let below : p.number < length q.nodes = omega (arith, g.there, ap length h.grown, length-append p.nodes h.others) in
      let first : term_at q.nodes p.number ≡ x = ap (λ l. term_at l p.number) h.grown ∙ term_stays p.nodes h.others p.number g.there ∙ g.means in
      let i = put_good q.nodes (kind p.number q.number) h.grounded h.distinct (fit _ _ _ below h.there) in
      let e : term_of (terms q.nodes) (kind p.number q.number) ≡ made x y = is (terms q.nodes) p.number q.number ∙ ap₂ made first h.means in
      record {
        others = g.others ++ (h.others ++ i.others);
        grown = i.grown ∙ ap (λ l. l ++ i.others) (h.grown ∙ ap (λ l. l ++ h.others) g.grown) ∙ simp append_assoc;
        grounded = i.grounded;
        distinct = i.distinct;
        there = i.there;
        means = i.means ∙ e;
        adds = adds_append _ _ g.adds (adds_append _ _ h.adds (subst (λ w. Adds (terms q.nodes) (w ∷ []) (terms (put_two kind p.number q).nodes)) e i.adds));
      }

abbrev pub Coded : Term → Type 0
Coded (var c) = c ≤ 2625
Coded (meet a b) = Coded a × Coded b
Coded (join a b) = Coded a × Coded b

pub placed_good : (t : Term) → Coded t → (ns : List Node) → Grounded ns → Distinct ns → Good ns (placed ns t) t (subterms t)
placed_good (var c) h ns g d = put_good ns (node.Variable c) g d (code_fits c h)
placed_good (meet x y) h ns g d =
    let p = placed_good x h.0 ns g d in
    two_good node.Meet meet (λ ts a b. refl) below_fits ns _ _ x y _ _ p (placed_good y h.1 (placed ns x).nodes p.grounded p.distinct)
placed_good (join x y) h ns g d =
    let p = placed_good x h.0 ns g d in
    two_good node.Join join (λ ts a b. refl) below_fits ns _ _ x y _ _ p (placed_good y h.1 (placed ns x).nodes p.grounded p.distinct)
