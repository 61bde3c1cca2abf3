-- The terms of nodes: they stay when a node is added, and each is made of the terms of its node's parts.
use Rattle.std.proofs.Common.{◌≡◌, ℕ, zero, suc, ◌+◌, ◌<◌, ◌≤◌, true, ◌&&◌, ltb, leb, List, [], ◌∷◌, ◌++◌, length, get_or, sym, refl, ap, ◌∙◌, subst, ap₂, arith}
use Rattle.std.proofs.lemmas.List.{length_push, get_or_push, get_or_append_left}
use Rattle.std.proofs.lemmas.Bool.Decides.{nat_tests}
use Rattle.free_lattice.specs.Terms.{Term, var, meet, join}
use Rattle.sheet.specs.declared.node.Node.{Node}
use Rattle.sheet.specs.declared.node.Node.TheVariants.{Variable, Meet, Join}
use Rattle.sheet.specs.Nodes.{fits, node_at, Grounded, term_of, terms_behind, terms, term_at}

-- the terms that are there stay
early : (ns : List Node) (ts : List Term) (k : ℕ) → k < length ts → get_or (terms_behind ts ns) k (var 0) ≡ get_or ts k (var 0)
early [] ts k lt = refl
early (n ∷ ns) ts k lt =
    early ns (ts ++ term_of ts n ∷ []) k (omega (arith, length_push ts (term_of ts n))) ∙ get_or_append_left ts (term_of ts n ∷ []) (var 0) k lt

behind_append : (ns ms : List Node) (ts : List Term) → terms_behind ts (ns ++ ms) ≡ terms_behind (terms_behind ts ns) ms
behind_append [] ms ts = refl
behind_append (n ∷ ns) ms ts = behind_append ns ms (ts ++ term_of ts n ∷ [])

behind_length : (ns : List Node) (ts : List Term) → length (terms_behind ts ns) ≡ length ts + length ns
behind_length [] ts = omega arith
behind_length (n ∷ ns) ts = omega (arith, behind_length ns (ts ++ term_of ts n ∷ []), length_push ts (term_of ts n))

pub terms_length : (ns : List Node) → length (terms ns) ≡ length ns
terms_length ns = omega (arith, behind_length ns [])

pub terms_push : (ns : List Node) (n : Node) → terms (ns ++ n ∷ []) ≡ terms ns ++ term_of (terms ns) n ∷ []
terms_push ns n = behind_append ns (n ∷ []) []

pub term_stays : (ns ms : List Node) (k : ℕ) → k < length ns → term_at (ns ++ ms) k ≡ term_at ns k
term_stays ns ms k lt = ap (λ l. get_or l k (var 0)) (behind_append ns ms []) ∙ early ms (terms ns) k (omega (arith, terms_length ns))

-- what fits has its parts below
pub parts_below : (k a b : ℕ) → (ltb a k && ltb b k) ≡ true → (a < k) × (b < k)
parts_below k a b h = (grind (arith, nat_tests), grind (arith, nat_tests))

pub below_fits : (k a b : ℕ) → a < k → b < k → (ltb a k && ltb b k) ≡ true
below_fits k a b h i = grind (arith, nat_tests)

pub code_fits : (c : ℕ) → c ≤ 2625 → leb c 2625 ≡ true
code_fits c h = grind (arith, nat_tests)

pub fits_more : (j m : ℕ) (n : Node) → fits j n ≡ true → j ≤ m → fits m n ≡ true
fits_more j m (Variable c) f le = f
fits_more j m (Meet a b) f le = let p = parts_below j a b f in below_fits m a b (omega (arith, p.0)) (omega (arith, p.1))
fits_more j m (Join a b) f le = let p = parts_below j a b f in below_fits m a b (omega (arith, p.0)) (omega (arith, p.1))

made_early : (ns : List Node) (ts : List Term) (n : Node) → fits (length ts) n ≡ true → term_of (terms_behind ts ns) n ≡ term_of ts n
made_early ns ts (Variable c) h = refl
made_early ns ts (Meet a b) h = let p = parts_below (length ts) a b h in ap₂ meet (early ns ts a p.0) (early ns ts b p.1)
made_early ns ts (Join a b) h = let p = parts_below (length ts) a b h in ap₂ join (early ns ts a p.0) (early ns ts b p.1)

unfolded : (ns : List Node) (ts : List Term) (k : ℕ) → k < length ns → fits (length ts + k) (node_at ns k) ≡ true
    → get_or (terms_behind ts ns) (length ts + k) (var 0) ≡ term_of (terms_behind ts ns) (node_at ns k)
unfolded [] ts k lt f = absurd (omega arith)
unfolded (n ∷ ns) ts zero lt f =
    let ts' : List Term = ts ++ term_of ts n ∷ [] in
    let here : length ts + 0 ≡ length ts = omega arith in
    let f' : fits (length ts) n ≡ true = subst (λ i. fits i n ≡ true) here f in
    let below : length ts < length ts' = omega (arith, length_push ts (term_of ts n)) in
    ap (λ i. get_or (terms_behind ts' ns) i (var 0)) here ∙ early ns ts' (length ts) below ∙ get_or_push ts (term_of ts n) (var 0) (length ts) refl ∙ sym (made_early (n ∷ ns) ts n f')
unfolded (n ∷ ns) ts (suc k) lt f =
    let ts' : List Term = ts ++ term_of ts n ∷ [] in
    let sum : length ts + suc k ≡ length ts' + k = omega (arith, length_push ts (term_of ts n)) in
    ap (λ i. get_or (terms_behind ts' ns) i (var 0)) sum ∙ unfolded ns ts' k (omega arith) (subst (λ i. fits i (node_at ns k) ≡ true) sum f)

pub term_is : (ns : List Node) (k : ℕ) → Grounded ns → k < length ns → term_at ns k ≡ term_of (terms ns) (node_at ns k)
term_is ns k g lt =
    let zero_more : k ≡ 0 + k = omega arith in
    ap (λ i. get_or (terms ns) i (var 0)) zero_more ∙ unfolded ns [] k lt (subst (λ i. fits i (node_at ns k) ≡ true) zero_more (g k lt))
