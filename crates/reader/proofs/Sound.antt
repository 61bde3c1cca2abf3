-- What is read is written: a granted text is a written term, and its nodes are those of that term.
use Rattle.std.proofs.Common.{◌≡◌, ℕ, zero, suc, ◌<◌, ◌≤◌, Bool, true, false, cond, ltb, List, [], ◌∷◌, ◌++◌, length, drop, Some, None, Ok, Err, Option, Result, sym, refl, ap, ◌∙◌, subst, subst₂, append_assoc, append-nil, arith}
use Rattle.std.proofs.lemmas.List.{length_push}
use Rattle.std.proofs.lemmas.Bool.Decides.{nat_tests}
use Rattle.free_lattice.specs.Terms.{Term}
use Rattle.sheet.specs.declared.node.Node.{Node}
use Rattle.sheet.specs.declared.node.Node.TheVariants as node
use Rattle.sheet.specs.Nodes.{find}
use Rattle.refused.specs.Refused.{refused}
use Rattle.sheet.specs.Enter.{numbered, grown}
use Rattle.reader.specs.declared.token.Kind.{Kind}
use Rattle.reader.specs.declared.token.Kind.TheVariants.{Open, Close, Plus, Star, Variable}
use Rattle.reader.specs.declared.token.Token.{Token}
use Rattle.reader.specs.declared.reader.Sign.{Sign}
use Rattle.reader.specs.declared.reader.Sign.TheVariants as sign
use Rattle.reader.specs.declared.reader.Held.{Held}
use Rattle.reader.specs.declared.reader.Held.TheVariants.{Nothing, One, Several}
use Rattle.reader.specs.Faults.{Row}
use Rattle.reader.specs.Cutting.{cut, behind}
use Rattle.reader.specs.Reading.{Outcome, ended, bind, refuse, next, or_end, due, enter_at, placed_at, sign_of, read_sign, pair, several, add_part, close_list, is_close, read_parts, read_list, by_kind, read_term, read_whole}
use Rattle.reader.specs.Grammar.{Tree, Parts, leaf, list, two, more, combine, term, folded, sign_kind, tokens, all_tokens, depth, depths, Spelled, Written}
use Rattle.reader.proofs.Spelling.{next_some, next_none}
use Rattle.reader.proofs.Placing.{put_by, put, placed, combined}

-- what an outcome tells
pub record Same {A : Type 0} (a b : A) (ns ns' : List Node) (at at' : ℕ) : Type 0 where
  pub value : a ≡ b
  pub nodes : ns ≡ ns'
  pub place : at ≡ at'

pub same : {A : Type 0} (a b : A) (ns ns' : List Node) (at at' : ℕ) → ◌≡◌ {A = Outcome A} (ended (Ok a) ns at) (ended (Ok b) ns' at') → Same a b ns ns' at at'
same a b ns ns' at at' h = record { value = cc; nodes = cc; place = cc }

pub record Bound {A B : Type 0} (o : Outcome A) (k : A → List Node → ℕ → Outcome B) (goal : Outcome B) : Type 0 where
  pub value : A
  pub nodes : List Node
  pub place : ℕ
  pub first : o ≡ ended (Ok value) nodes place
  pub then : k value nodes place ≡ goal

bound : {A B : Type 0} (o : Outcome A) (k : A → List Node → ℕ → Outcome B) (b : B) (ns : List Node) (at : ℕ) → bind o k ≡ ended (Ok b) ns at → Bound o k (ended (Ok b) ns at)
bound (ended (Ok a) ns₁ at₁) k b ns at h = record { value = a; nodes = ns₁; place = at₁; first = refl; then = h }
bound (ended (Err e) ns₁ at₁) k b ns at h = absurd (cc)

pub record Came {A : Type 0} (text : List ℕ) (ns : List Node) (at : ℕ) (k : Token → List Node → ℕ → Outcome A) (goal : Outcome A) : Type 0 where
  pub token : Token
  pub was : cut at (drop at text) ≡ Ok (Some token)
  pub then : k token ns (behind at (drop at text)) ≡ goal

module _ {A : Type 0} (text : List ℕ) (ns : List Node) (at : ℕ) (k : Token → List Node → ℕ → Outcome A) where
  came : (a : A) (ns' : List Node) (at' : ℕ) → due text ns at k ≡ ended (Ok a) ns' at' → Came text ns at k (ended (Ok a) ns' at')
  came a ns' at' h = go (cut at (drop at text)) refl h
    where
      go : (r : Result (Option Token) Row) → cut at (drop at text) ≡ r
          → bind (ended r ns (behind at (drop at text))) (λ o ns₁ at₁. or_end o (refuse 3 (length text) ns₁ at₁) (λ t. k t ns₁ at₁)) ≡ ended (Ok a) ns' at'
          → Came text ns at k (ended (Ok a) ns' at')
      go (Ok (Some t)) e i = record { token = t; was = e; then = i }
      go (Ok None) e i = absurd (cc)
      go (Err x) e i = absurd (cc)

-- entering a node, with room and without
pub record Entry (n : Node) (ns : List Node) (at k : ℕ) (ns' : List Node) (at' : ℕ) : Type 0 where
  pub nodes : ns' ≡ (put ns n).nodes
  pub number : k ≡ (put ns n).number
  pub place : at' ≡ at
  pub few : length ns' ≤ 60

module _ (n : Node) (p : ℕ) (ns : List Node) (at : ℕ) where
  entered_is : (k : ℕ) (ns' : List Node) (at' : ℕ) → length ns ≤ 60 → enter_at n p ns at ≡ ended (Ok k) ns' at' → Entry n ns at k ns' at'
  entered_is k ns' at' le h = go (find ns n) refl h
    where
      record_at : (o : Option ℕ) → find ns n ≡ o → ns' ≡ (put_by ns n o).nodes → k ≡ (put_by ns n o).number → at' ≡ at → length ns' ≤ 60 → Entry n ns at k ns' at'
      record_at o e a b c d = record { nodes = a ∙ ap (λ x. (put_by ns n x).nodes) (sym e); number = b ∙ ap (λ x. (put_by ns n x).number) (sym e); place = c; few = d }

      room : (x : Bool) → ltb (length ns) 60 ≡ x → find ns n ≡ None → ended (placed_at p (cond x (Ok (length ns)) (Err (refused 8 [])))) (cond x (ns ++ n ∷ []) ns) at ≡ ended (Ok k) ns' at' → Entry n ns at k ns' at'
      room true t e i =
          let s = same (length ns) k (ns ++ n ∷ []) ns' at at' i in
          let lt : length ns < 60 = grind (arith, nat_tests) in
          record_at None e (sym s.nodes) (sym s.value) (sym s.place) (omega (arith, ap length s.nodes, length_push ns n))
      room false t e i = absurd (cc)

      go : (o : Option ℕ) → find ns n ≡ o → ended (placed_at p (numbered ns o)) (grown ns n o) at ≡ ended (Ok k) ns' at' → Entry n ns at k ns' at'
      go (Some j) e i = let s = same j k ns ns' at at' i in record_at (Some j) e (sym s.nodes) (sym s.value) (sym s.place) (omega (arith, ap length s.nodes))
      go None e i = room (ltb (length ns) 60) refl e i

-- a term that was read is written
pub record TermRead (left : ℕ) (text : List ℕ) (t : Token) (ns : List Node) (at k : ℕ) (ns' : List Node) (at' : ℕ) : Type 0 where
  pub tree : Tree
  pub rest : List Kind
  pub are : tokens tree ≡ t.kind ∷ rest
  pub shallow : depth tree ≤ left
  pub spelled : (ks : List Kind) → Spelled (drop at' text) ks → Spelled (drop at text) (rest ++ ks)
  pub nodes : ns' ≡ (placed ns (term tree)).nodes
  pub number : k ≡ (placed ns (term tree)).number
  pub few : length ns' ≤ 60

abbrev Sound : ℕ → List ℕ → (Token → List Node → ℕ → Outcome ℕ) → Type 0
Sound left text read = (t : Token) (ns : List Node) (at k : ℕ) (ns' : List Node) (at' : ℕ) → length ns ≤ 60 → read t ns at ≡ ended (Ok k) ns' at' → TermRead left text t ns at k ns' at'

-- what a list has held so far: its tokens js, its nodes ns, from the nodes ns₀ on
pub record HasOne (left : ℕ) (ns₀ : List Node) (i : ℕ) (js : List Kind) (ns : List Node) : Type 0 where
  pub tree : Tree
  pub are : tokens tree ≡ js
  pub shallow : depth tree ≤ left
  pub nodes : ns ≡ (placed ns₀ (term tree)).nodes
  pub number : i ≡ (placed ns₀ (term tree)).number

pub record HasSeveral (left : ℕ) (s : Sign) (ns₀ : List Node) (i : ℕ) (js : List Kind) (ns : List Node) : Type 0 where
  pub all : Parts
  pub are : all_tokens all ≡ js
  pub shallow : depths all ≤ left
  pub nodes : ns ≡ (placed ns₀ (folded all s)).nodes
  pub number : i ≡ (placed ns₀ (folded all s)).number

abbrev SoFar : ℕ → Sign → List Node → Held → List Kind → List Node → Type 0
SoFar left s ns₀ Nothing js ns = (js ≡ []) × (ns ≡ ns₀)
SoFar left s ns₀ (One i) js ns = HasOne left ns₀ i js ns
SoFar left s ns₀ (Several i) js ns = HasSeveral left s ns₀ i js ns

module _ (left : ℕ) (s : Sign) (ns₀ : List Node) where
  -- two terms are there, and their pair is entered
  joined : (a b : Term) (i part : ℕ) (ns ns₁ ns₂ : List Node) (k at at₂ : ℕ) → ns ≡ (placed ns₀ a).nodes → i ≡ (placed ns₀ a).number → ns₁ ≡ (placed ns b).nodes → part ≡ (placed ns b).number
      → Entry (pair s i part) ns₁ at k ns₂ at₂ → (ns₂ ≡ (placed ns₀ (combine s a b)).nodes) × (k ≡ (placed ns₀ (combine s a b)).number)
  joined a b i part ns ns₁ ns₂ k at at₂ e₁ e₂ e₃ e₄ n =
      let u : ns₁ ≡ (placed (placed ns₀ a).nodes b).nodes = e₃ ∙ ap (λ l. (placed l b).nodes) e₁ in
      let v : part ≡ (placed (placed ns₀ a).nodes b).number = e₄ ∙ ap (λ l. (placed l b).number) e₁ in
      let w : put ns₁ (pair s i part) ≡ placed ns₀ (combine s a b) = (λ j. put (u j) (pair s (e₂ j) (v j))) ∙ sym (combined s ns₀ a b) in
      (n.nodes ∙ ap (λ x. x.nodes) w, n.number ∙ ap (λ x. x.number) w)

  pub record Added (held : Held) (js : List Kind) (ns : List Node) (at at' : ℕ) : Type 0 where
    pub so_far : SoFar left s ns₀ held js ns
    pub few : length ns ≤ 60
    pub place : at' ≡ at

  pub several_is : (n : Node) (p : ℕ) (ns : List Node) (at : ℕ) (held : Held) (ns' : List Node) (at' : ℕ) → length ns ≤ 60 → several (enter_at n p ns at) ≡ ended (Ok held) ns' at' → (k : ℕ) × (held ≡ Several k) × Entry n ns at k ns' at'
  several_is n p ns at held ns' at' le h =
      let b = bound (enter_at n p ns at) (λ k ns₁ at₁. ended (Ok (Several k)) ns₁ at₁) held ns' at' h in
      let e = entered_is n p ns at b.value b.nodes b.place le b.first in
      let z = same (Several b.value) held b.nodes ns' b.place at' b.then in
      (b.value, sym z.value, record { nodes = sym z.nodes ∙ e.nodes; number = e.number; place = sym z.place ∙ e.place; few = omega (arith, e.few, ap length z.nodes) })

  adds : (held : Held) (js : List Kind) (ns : List Node) → SoFar left s ns₀ held js ns
      → (c : Tree) (part p : ℕ) (ns₁ : List Node) (at : ℕ) → depth c ≤ left → ns₁ ≡ (placed ns (term c)).nodes → part ≡ (placed ns (term c)).number → length ns₁ ≤ 60
      → (held' : Held) (ns₂ : List Node) (at₂ : ℕ) → add_part s held part p ns₁ at ≡ ended (Ok held') ns₂ at₂ → Added held' (js ++ tokens c) ns₂ at at₂
  adds Nothing js ns (none, start) c part p ns₁ at d e₁ e₂ le held' ns₂ at₂ h =
      let z = same (One part) held' ns₁ ns₂ at at₂ h in
      record {
        so_far = subst (λ x. SoFar left s ns₀ x (js ++ tokens c) ns₂) z.value
            (record { tree = c; are = sym (ap (λ l. l ++ tokens c) none); shallow = d; nodes = sym z.nodes ∙ e₁ ∙ ap (λ l. (placed l (term c)).nodes) start; number = e₂ ∙ ap (λ l. (placed l (term c)).number) start });
        few = omega (arith, ap length z.nodes);
        place = sym z.place;
      }
  adds (One i) js ns f c part p ns₁ at d e₁ e₂ le held' ns₂ at₂ h =
      let z = several_is (pair s i part) p ns₁ at held' ns₂ at₂ le h in
      let w = joined (term f.tree) (term c) i part ns ns₁ ns₂ z.0 at at₂ f.nodes f.number e₁ e₂ z.2 in
      record {
        so_far = subst (λ x. SoFar left s ns₀ x (js ++ tokens c) ns₂) (sym z.1)
            (record { all = two f.tree c; are = ap (λ l. l ++ tokens c) f.are; shallow = omega (arith, f.shallow); nodes = w.0; number = w.1 });
        few = z.2.few;
        place = z.2.place;
      }
  adds (Several i) js ns f c part p ns₁ at d e₁ e₂ le held' ns₂ at₂ h =
      let z = several_is (pair s i part) p ns₁ at held' ns₂ at₂ le h in
      let w = joined (folded f.all s) (term c) i part ns ns₁ ns₂ z.0 at at₂ f.nodes f.number e₁ e₂ z.2 in
      record {
        so_far = subst (λ x. SoFar left s ns₀ x (js ++ tokens c) ns₂) (sym z.1)
            (record { all = more f.all c; are = ap (λ l. l ++ tokens c) f.are; shallow = omega (arith, f.shallow); nodes = w.0; number = w.1 });
        few = z.2.few;
        place = z.2.place;
      }

close_kind : (k : Kind) → is_close k ≡ true → k ≡ Close
close_kind Close h = refl
close_kind Open h = absurd (cc)
close_kind Plus h = absurd (cc)
close_kind Star h = absurd (cc)
close_kind (Variable c) h = absurd (cc)

pub record Listed (left : ℕ) (text : List ℕ) (s : Sign) (ns₀ : List Node) (js : List Kind) (at k : ℕ) (ns' : List Node) (at' : ℕ) : Type 0 where
  pub all : Parts
  pub rest : List Kind
  pub are : all_tokens all ≡ js ++ rest
  pub shallow : depths all ≤ left
  pub spelled : (ks : List Kind) → Spelled (drop at' text) ks → Spelled (drop at text) (rest ++ Close ∷ ks)
  pub nodes : ns' ≡ (placed ns₀ (folded all s)).nodes
  pub number : k ≡ (placed ns₀ (folded all s)).number
  pub few : length ns' ≤ 60

module _ (left : ℕ) (text : List ℕ) (read : Token → List Node → ℕ → Outcome ℕ) (sound : Sound left text read) (s : Sign) (ns₀ : List Node) where
  -- the closing bracket
  closes : (held : Held) (js : List Kind) (ns : List Node) (at : ℕ) → SoFar left s ns₀ held js ns → length ns ≤ 60 → (t : Token) → cut at (drop at text) ≡ Ok (Some t) → t.kind ≡ Close
      → (k : ℕ) (ns' : List Node) (at' : ℕ) → ended (close_list held t.place) ns (behind at (drop at text)) ≡ ended (Ok k) ns' at' → Listed left text s ns₀ js at k ns' at'
  closes Nothing js ns at f le t e c k ns' at' h = absurd (cc)
  closes (One i) js ns at f le t e c k ns' at' h = absurd (cc)
  closes (Several i) js ns at f le t e c k ns' at' h =
      let z = same i k ns ns' (behind at (drop at text)) at' h in
      record {
        all = f.all;
        rest = [];
        are = f.are ∙ sym (append-nil js);
        shallow = f.shallow;
        spelled = λ ks sp. subst (λ x. Spelled (drop at text) (x ∷ ks)) c (next_some text at t ks e (subst (λ n. Spelled (drop n text) ks) (sym z.place) sp));
        nodes = sym z.nodes ∙ f.nodes;
        number = sym z.value ∙ f.number;
        few = omega (arith, ap length z.nodes);
      }

  parts_sound : (fuel : ℕ) (held : Held) (js : List Kind) (ns : List Node) (at : ℕ) → SoFar left s ns₀ held js ns → length ns ≤ 60
      → (k : ℕ) (ns' : List Node) (at' : ℕ) → read_parts fuel read text s held ns at ≡ ended (Ok k) ns' at' → Listed left text s ns₀ js at k ns' at'
  parts_sound zero held js ns at f le k ns' at' h = absurd (cc)
  parts_sound (suc fuel) held js ns at f le k ns' at' h = go (parts_sound fuel) (came text ns at _ k ns' at' h)
    where
      onward : Token → List Node → ℕ → Outcome ℕ
      onward t ns₁ at₁ = bind (read t ns₁ at₁) (λ part ns₂ at₂. bind (add_part s held part t.place ns₂ at₂) (λ held₃. read_parts fuel read text s held₃))

      turn : Token → List Node → ℕ → Outcome ℕ
      turn t ns₁ at₁ = cond (is_close t.kind) (ended (close_list held t.place) ns₁ at₁) (onward t ns₁ at₁)

      at₀ : ℕ
      at₀ = behind at (drop at text)

      Again : Type 0
      Again = (held₃ : Held) (js₃ : List Kind) (ns₃ : List Node) (at₃ : ℕ) → SoFar left s ns₀ held₃ js₃ ns₃ → length ns₃ ≤ 60
          → (k₃ : ℕ) (ns₄ : List Node) (at₄ : ℕ) → read_parts fuel read text s held₃ ns₃ at₃ ≡ ended (Ok k₃) ns₄ at₄ → Listed left text s ns₀ js₃ at₃ k₃ ns₄ at₄

      part_read : Again → (t : Token) → cut at (drop at text) ≡ Ok (Some t) → onward t ns at₀ ≡ ended (Ok k) ns' at' → Listed left text s ns₀ js at k ns' at'
      part_read again t e i =
          let b = bound (read t ns at₀) _ k ns' at' i in
          let c = sound t ns at₀ b.value b.nodes b.place le b.first in
          let d = bound (add_part s held b.value t.place b.nodes b.place) _ k ns' at' b.then in
          let a = adds left s ns₀ held js ns f c.tree b.value t.place b.nodes b.place c.shallow c.nodes c.number c.few d.value d.nodes d.place d.first in
          let r = again d.value (js ++ tokens c.tree) d.nodes d.place a.so_far a.few k ns' at' d.then in
          record {
            all = r.all;
            rest = tokens c.tree ++ r.rest;
            are = r.are ∙ append_assoc js (tokens c.tree) r.rest;
            shallow = r.shallow;
            spelled = λ ks sp.
                let one : Spelled (drop b.place text) (r.rest ++ Close ∷ ks) = subst (λ n. Spelled (drop n text) (r.rest ++ Close ∷ ks)) a.place (r.spelled ks sp) in
                let two : Spelled (drop at text) (t.kind ∷ (c.rest ++ (r.rest ++ Close ∷ ks))) = next_some text at t _ e (c.spelled _ one) in
                subst (λ l. Spelled (drop at text) l) (ap (λ l. l ++ (r.rest ++ Close ∷ ks)) (sym c.are) ∙ sym (append_assoc (tokens c.tree) r.rest (Close ∷ ks))) two;
            nodes = r.nodes;
            number = r.number;
            few = r.few;
          }

      by : Again → (t : Token) → cut at (drop at text) ≡ Ok (Some t) → (x : Bool) → is_close t.kind ≡ x → cond x (ended (close_list held t.place) ns at₀) (onward t ns at₀) ≡ ended (Ok k) ns' at' → Listed left text s ns₀ js at k ns' at'
      by again t e true x i = closes held js ns at f le t e (close_kind t.kind x) k ns' at' i
      by again t e false x i = part_read again t e i

      go : Again → Came text ns at turn (ended (Ok k) ns' at') → Listed left text s ns₀ js at k ns' at'
      go again c = by again c.token c.was (is_close c.token.kind) refl c.then

-- a list, behind its opening bracket
signed_is : (t : Token) (ns : List Node) (at : ℕ) (k : Kind) (s : Sign) (ns' : List Node) (at' : ℕ) → sign_of t ns at k ≡ ended (Ok s) ns' at' → (k ≡ sign_kind s) × (ns ≡ ns') × (at ≡ at')
signed_is t ns at Plus s ns' at' h = let z = same sign.Join s ns ns' at at' h in (ap sign_kind z.value, z.nodes, z.place)
signed_is t ns at Star s ns' at' h = let z = same sign.Meet s ns ns' at at' h in (ap sign_kind z.value, z.nodes, z.place)
signed_is t ns at Open s ns' at' h = absurd (cc)
signed_is t ns at Close s ns' at' h = absurd (cc)
signed_is t ns at (Variable c) s ns' at' h = absurd (cc)

open_list : (left : ℕ) (text : List ℕ) (read : Token → List Node → ℕ → Outcome ℕ) → Sound left text read → (t : Token) → t.kind ≡ Open → (ns : List Node) (at k : ℕ) (ns' : List Node) (at' : ℕ) → length ns ≤ 60
    → read_list read text ns at ≡ ended (Ok k) ns' at' → TermRead (suc left) text t ns at k ns' at'
open_list left text read sound t is ns at k ns' at' le h =
    let b = bound (read_sign text ns at) (λ s. read_parts (suc (length text)) read text s Nothing) k ns' at' h in
    let c = came text ns at (λ t₁ ns₁ at₁. sign_of t₁ ns₁ at₁ t₁.kind) b.value b.nodes b.place b.first in
    let z = signed_is c.token ns (behind at (drop at text)) c.token.kind b.value b.nodes b.place c.then in
    let l = parts_sound left text read sound b.value ns (suc (length text)) Nothing [] b.nodes b.place (refl, sym z.1) (omega (arith, ap length z.1)) k ns' at' b.then in
    record {
      tree = list b.value l.all;
      rest = sign_kind b.value ∷ (all_tokens l.all ++ Close ∷ []);
      are = ap (λ x. x ∷ sign_kind b.value ∷ (all_tokens l.all ++ Close ∷ [])) (sym is);
      shallow = omega (arith, l.shallow);
      spelled = λ ks sp.
          let one : Spelled (drop (behind at (drop at text)) text) (l.rest ++ Close ∷ ks) = subst (λ n. Spelled (drop n text) (l.rest ++ Close ∷ ks)) (sym z.2) (l.spelled ks sp) in
          let two : Spelled (drop at text) (c.token.kind ∷ (l.rest ++ Close ∷ ks)) = next_some text at c.token _ c.was one in
          subst₂ (λ x m. Spelled (drop at text) (x ∷ m)) z.0 (ap (λ m. m ++ Close ∷ ks) (sym l.are) ∙ sym (append_assoc (all_tokens l.all) (Close ∷ []) ks)) two;
      nodes = l.nodes;
      number = l.number;
      few = l.few;
    }

kind_sound : (left : ℕ) (text : List ℕ) (t : Token) (ns : List Node) (at : ℕ) (o : Outcome ℕ) → length ns ≤ 60
    → (t.kind ≡ Open → (k : ℕ) (ns' : List Node) (at' : ℕ) → o ≡ ended (Ok k) ns' at' → TermRead left text t ns at k ns' at')
    → (x : Kind) → t.kind ≡ x → (k : ℕ) (ns' : List Node) (at' : ℕ) → by_kind t ns at o x ≡ ended (Ok k) ns' at' → TermRead left text t ns at k ns' at'
kind_sound left text t ns at o le f (Variable c) e k ns' at' h =
    let n = entered_is (node.Variable c) t.place ns at k ns' at' le h in
    record { tree = leaf c; rest = []; are = ap (λ x. x ∷ []) (sym e); shallow = omega arith; spelled = λ ks sp. subst (λ m. Spelled (drop m text) ks) n.place sp; nodes = n.nodes; number = n.number; few = n.few }
kind_sound left text t ns at o le f Open e k ns' at' h = f e k ns' at' h
kind_sound left text t ns at o le f Close e k ns' at' h = absurd (cc)
kind_sound left text t ns at o le f Plus e k ns' at' h = absurd (cc)
kind_sound left text t ns at o le f Star e k ns' at' h = absurd (cc)

pub term_sound : (left : ℕ) (text : List ℕ) → Sound left text (read_term left text)
term_sound zero text t ns at k ns' at' le h = kind_sound zero text t ns at _ le (λ e k₁ ns₁ at₁ i. absurd (cc)) t.kind refl k ns' at' h
term_sound (suc left) text t ns at k ns' at' le h =
    kind_sound (suc left) text t ns at _ le (λ e k₁ ns₁ at₁ i. open_list left text (read_term left text) (term_sound left text) t e ns at k₁ ns₁ at₁ le i) t.kind refl k ns' at' h

-- a whole text
pub record Whole (text : List ℕ) (ns : List Node) (k : ℕ) (ns' : List Node) : Type 0 where
  pub tree : Tree
  pub written : Written text tree
  pub nodes : ns' ≡ (placed ns (term tree)).nodes
  pub number : k ≡ (placed ns (term tree)).number
  pub few : length ns' ≤ 60

module _ (text : List ℕ) (ns : List Node) (le : length ns ≤ 60) (k : ℕ) (ns' : List Node) (at' : ℕ) where
  last : (k₁ : ℕ) (ns₁ : List Node) (at₁ : ℕ) (o : Option Token) (at₂ : ℕ) → or_end o (ended (Ok k₁) ns₁ at₂) (λ extra. refuse 7 extra.place ns₁ at₂) ≡ ended (Ok k) ns' at' → (o ≡ None) × (k₁ ≡ k) × (ns₁ ≡ ns')
  last k₁ ns₁ at₁ None at₂ h = let z = same k₁ k ns₁ ns' at₂ at' h in (refl, z.value, z.nodes)
  last k₁ ns₁ at₁ (Some t) at₂ h = absurd (cc)

  pub whole_sound : read_whole text ns 0 ≡ ended (Ok k) ns' at' → Whole text ns k ns'
  whole_sound h =
      let c = came text ns 0 _ k ns' at' h in
      let b = bound (read_term 16 text c.token ns (behind 0 (drop 0 text))) _ k ns' at' c.then in
      let t = term_sound 16 text c.token ns (behind 0 (drop 0 text)) b.value b.nodes b.place le b.first in
      let d = bound (next text b.nodes b.place) (λ o ns₁ at₁. or_end o (ended (Ok b.value) ns₁ at₁) (λ extra. refuse 7 extra.place ns₁ at₁)) k ns' at' b.then in
      let l = last b.value d.nodes b.place d.value d.place d.then in
      let n = next_same d.value d.nodes d.place b.nodes b.place d.first in
      let sp : Spelled (drop 0 text) (c.token.kind ∷ (t.rest ++ [])) = next_some text 0 c.token (t.rest ++ []) c.was (t.spelled [] (next_none text b.place (n.0 ∙ ap Ok l.0))) in
      record {
        tree = t.tree;
        written = record { spelled = subst (λ m. Spelled text m) (ap (λ m. c.token.kind ∷ m) (append-nil t.rest) ∙ sym t.are) sp; shallow = t.shallow };
        nodes = sym l.2 ∙ sym n.1 ∙ t.nodes;
        number = sym l.1 ∙ t.number;
        few = omega (arith, t.few, ap length l.2, ap length n.1);
      }
    where
      next_same : (o : Option Token) (ns₂ : List Node) (at₂ : ℕ) (ns₁ : List Node) (at₁ : ℕ) → next text ns₁ at₁ ≡ ended (Ok o) ns₂ at₂ → (cut at₁ (drop at₁ text) ≡ Ok o) × (ns₁ ≡ ns₂)
      next_same o ns₂ at₂ ns₁ at₁ h = (cc, cc)
