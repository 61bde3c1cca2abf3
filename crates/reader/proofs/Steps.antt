-- The steps of the reader, one behind the other: the loop over a list, a term, a whole text.
use Rattle.std.proofs.Common.{◌≡◌, ℕ, suc, ◌-◌, ◌<◌, ◌≤◌, cond, List, length, drop, Some, None, Ok, Err, Option, Result, sym, refl, ap, ◌∙◌, arith}
use Rattle.std.specs.Result.{IsErrAnd}
use Rattle.std.proofs.lemmas.Result.{err_from_is_err_and}
use Rattle.sheet.specs.declared.node.Node.{Node}
use Rattle.sheet.specs.View.{nodes_of}
use Rattle.sheet.proofs.View.{at_most}
use Rattle.reader.specs.declared.token.Kind.{Kind}
use Rattle.reader.specs.declared.token.Kind.TheVariants.{Open, Close, Plus, Star, Variable}
use Rattle.reader.specs.declared.token.Token.{Token}
use Rattle.reader.specs.declared.reader.Sign.{Sign}
use Rattle.reader.specs.declared.reader.Held.{Held}
use Rattle.reader.specs.declared.reader.Held.TheVariants.{Nothing}
use Rattle.reader.specs.declared.reader.Reader.{Reader}
use Rattle.reader.specs.declared.fault.Fault.{Fault}
use Rattle.reader.specs.Faults.{Row, row, told, by_reader}
use Rattle.reader.specs.Cutting.{cut, behind}
use Rattle.reader.specs.Reading.{Outcome, ended, bind, refuse, or_end, due, add_part, close_list, is_close, sign_of, read_sign, read_parts, read_term, read_list, Within}
use Rattle.reader.specs.Steps.{token_due, Onward, Reads}
use Rattle.reader.proofs.Reading.{not_close}
use Rattle.reader.proofs.Bounds.{Part, part, within_more, added}

-- a fault that `?` passed on
pub passed : {A : Type 0} (f : Fault) (r : Result A Fault) → IsErrAnd r (λ g. g ≡ f) → told r ≡ Err (row f)
passed f r h = let p = err_from_is_err_and r h in ap told p.1 ∙ ap (λ g. Err (row g)) p.2

-- what a step reads
abbrev pub Step : Type 0 → Type 0
Step A = List ℕ → List Node → ℕ → Outcome A

-- what is read from r on
abbrev pub from : {A : Type 0} → Reader → Step A → Outcome A
from r f = f r.cutter.text.now (nodes_of r.sheet.now) r.cutter.at

pub still : (r : Reader) → Onward r r
still r = record { offset = omega arith; text = refl; sheet = refl; memo = refl }

pub onwards : {r₀ r₁ r₂ : Reader} → Onward r₀ r₁ → Onward r₁ r₂ → Onward r₀ r₂
onwards a b = record { offset = omega arith; text = b.text ∙ a.text; sheet = b.sheet ∙ a.sheet; memo = b.memo ∙ a.memo }

-- f, and then g at what f answered
module _ {A B : Type 0} (f : Step A) (g : A → Step B) where
  abbrev pub both : Step B
  both text ns at = bind (f text ns at) (λ a. g a text)

  module _ {r₀ r₁ : Reader} where
    pub failed : {e : Row} → Reads r₀ (Err e) r₁ f → Reads r₀ (Err e) r₁ both
    failed h = record { outcome = ap (λ o. bind o (λ a. g a r₀.cutter.text.now)) h.outcome; onward = h.onward }

    pub reached : {a : A} → Reads r₀ (Ok a) r₁ f → from r₁ (g a) ≡ from r₀ both
    reached {a} h = ap (λ x. g a x (nodes_of r₁.sheet.now) r₁.cutter.at) h.onward.text ∙ ap (λ o. bind o (λ a'. g a' r₀.cutter.text.now)) h.outcome

    pub followed : {r₂ : Reader} {a : A} {r : Result B Row} → Reads r₀ (Ok a) r₁ f → Reads r₁ r r₂ (g a) → Reads r₀ r r₂ both
    followed h k = record { outcome = k.outcome ∙ reached h; onward = onwards h.onward k.onward }

-- the nodes stay where a token is cut
token_nodes : {now r₁ : Reader} {t : Token} → Reads now (Ok t) r₁ token_due → nodes_of r₁.sheet.now ≡ nodes_of now.sheet.now
token_nodes {now} {r₁} {t} h = go (cut now.cutter.at (drop now.cutter.at now.cutter.text.now)) h.outcome
  where
    go : (c : Result (Option Token) Row)
        → ended (Ok t) (nodes_of r₁.sheet.now) r₁.cutter.at ≡ bind (ended c (nodes_of now.sheet.now) (behind now.cutter.at (drop now.cutter.at now.cutter.text.now))) (λ o ns at. or_end o (refuse 3 (length now.cutter.text.now) ns at) (λ t'. ended (Ok t') ns at))
        → nodes_of r₁.sheet.now ≡ nodes_of now.sheet.now
    go (Err e) i = cc
    go (Ok None) i = cc
    go (Ok (Some t')) i = cc

-- the next token, and then g at it
module _ {B : Type 0} (g : Token → Step B) where
  abbrev pub with_token : Step B
  with_token text ns at = due text ns at (λ t. g t text)

  token_first : (r : Reader) → from r (both token_due g) ≡ from r with_token
  token_first r = go (cut r.cutter.at (drop r.cutter.at r.cutter.text.now))
    where
      text : List ℕ
      text = r.cutter.text.now

      go : (c : Result (Option Token) Row)
          → bind (bind (ended c (nodes_of r.sheet.now) (behind r.cutter.at (drop r.cutter.at text))) (λ o ns at. or_end o (refuse 3 (length text) ns at) (λ t. ended (Ok t) ns at))) (λ t. g t text)
          ≡ bind (ended c (nodes_of r.sheet.now) (behind r.cutter.at (drop r.cutter.at text))) (λ o ns at. or_end o (refuse 3 (length text) ns at) (λ t. g t text ns at))
      go (Err e) = refl
      go (Ok None) = refl
      go (Ok (Some t)) = refl

  module _ {r₀ r₁ : Reader} where
    pub token_failed : {e : Row} → Reads r₀ (Err e) r₁ token_due → Reads r₀ (Err e) r₁ with_token
    token_failed h = record { outcome = (failed token_due g h).outcome ∙ token_first r₀; onward = h.onward }

    pub token_reached : {t : Token} → Reads r₀ (Ok t) r₁ token_due → from r₁ (g t) ≡ from r₀ with_token
    token_reached h = reached token_due g h ∙ token_first r₀

    pub token_followed : {r₂ : Reader} {t : Token} {r : Result B Row} → Reads r₀ (Ok t) r₁ token_due → Reads r₁ r r₂ (g t) → Reads r₀ r r₂ with_token
    token_followed h k = record { outcome = k.outcome ∙ token_reached h; onward = onwards h.onward k.onward }

-- a token that is no sign, where one is due
pub no_sign : {r₀ r₁ : Reader} {t : Token} → Reads r₀ (Ok t) r₁ token_due → (t.kind ≡ Plus → ⊥) → (t.kind ≡ Star → ⊥) → Reads r₀ (Err (by_reader 4 t.place)) r₁ read_sign
no_sign {r₁ = r₁} {t = t} token plus star = token_followed (λ t' text ns at. sign_of t' ns at t'.kind) token (record { outcome = go t.kind plus star; onward = still r₁ })
  where
    go : (k : Kind) → (k ≡ Plus → ⊥) → (k ≡ Star → ⊥) → ended (Err (by_reader 4 t.place)) (nodes_of r₁.sheet.now) r₁.cutter.at ≡ sign_of t (nodes_of r₁.sheet.now) r₁.cutter.at k
    go Open p q = refl
    go Close p q = refl
    go Plus p q = absurd (p refl)
    go Star p q = absurd (q refl)
    go (Variable c) p q = refl

module _ (left : ℕ) (s : Sign) where
  abbrev pub parts : ℕ → Held → Step ℕ
  parts fuel held text = read_parts fuel (read_term left text) text s held

  -- what the list does with the next part
  abbrev pub part_first : ℕ → Held → Token → Step ℕ
  part_first fuel held t = both (λ text. read_term left text t) (λ k. both (λ text. add_part s held k t.place) (parts fuel))

  abbrev pub turn : ℕ → Held → Token → Step ℕ
  turn fuel held t text ns at = cond (is_close t.kind) (ended (close_list held t.place) ns at) (part_first fuel held t text ns at)

  -- the loop has come to `held` and the reader to `now`, and reads on what there was to read from `first` on
  pub record Going (first now : Reader) (held : Held) : Type 0 where
    pub fuel : ℕ
    pub enough : length now.cutter.text.now - now.cutter.at ≤ fuel
    pub same : from now (parts (suc fuel) held) ≡ from first (parts (suc (length first.cutter.text.now)) Nothing)
    pub onward : Onward first now
    pub within : Within (length (nodes_of now.sheet.now)) held

  pub begun : (r : Reader) → Going r r Nothing
  begun r = record { fuel = length r.cutter.text.now; enough = omega arith; same = refl; onward = still r; within = tt }

  module _ {first now : Reader} {held : Held} (g : Going first now held) where
    pub listed : {r₀ after : Reader} {r : Result ℕ Row} → Reads r₀ (Ok s) first read_sign → Reads now r after (parts (suc g.fuel) held) → Reads r₀ r after (λ text. read_list (read_term left text) text)
    listed sign h = followed read_sign (λ s' text. read_parts (suc (length text)) (read_term left text) text s' Nothing) sign (record { outcome = h.outcome ∙ g.same; onward = onwards g.onward h.onward })

    pub no_token : {after : Reader} {e : Row} → Reads now (Err e) after token_due → Reads now (Err e) after (parts (suc g.fuel) held)
    no_token h = token_failed (turn g.fuel held) h

    module _ {t : Token} {r₁ : Reader} (token : Reads now (Ok t) r₁ token_due) where
      module _ (no_end : t.kind ≡ Close → ⊥) where
        opened : from r₁ (part_first g.fuel held t) ≡ from r₁ (turn g.fuel held t)
        opened = sym (ap (λ b. cond b (ended (close_list held t.place) (nodes_of r₁.sheet.now) r₁.cutter.at) (from r₁ (part_first g.fuel held t))) (not_close t.kind no_end))

        more : {r : Result ℕ Row} {after : Reader} → Reads r₁ r after (part_first g.fuel held t) → Reads now r after (parts (suc g.fuel) held)
        more h = token_followed (turn g.fuel held) token (record { outcome = h.outcome ∙ opened; onward = h.onward })

        pub no_part : {e : Row} {after : Reader} → Reads r₁ (Err e) after (λ text. read_term left text t) → Reads now (Err e) after (parts (suc g.fuel) held)
        no_part h = more (failed (λ text. read_term left text t) (λ k. both (λ text. add_part s held k t.place) (parts g.fuel)) h)

        module _ {k : ℕ} {r₂ : Reader} (term : Reads r₁ (Ok k) r₂ (λ text. read_term left text t)) where
          there : Part (nodes_of r₁.sheet.now) (nodes_of r₂.sheet.now) k
          there = part left r₁.cutter.text.now t (nodes_of r₁.sheet.now) r₁.cutter.at k (nodes_of r₂.sheet.now) r₂.cutter.at (at_most r₁.sheet.now) term.outcome

          pub adds : (k < length (nodes_of r₂.sheet.now)) × Within (length (nodes_of r₂.sheet.now)) held
          adds = (there.there, within_more held _ _ g.within (omega (arith, there.grows, ap length (token_nodes token))))

          pub no_held : {e : Row} {after : Reader} → Reads r₂ (Err e) after (λ text. add_part s held k t.place) → Reads now (Err e) after (parts (suc g.fuel) held)
          no_held h = more (followed (λ text. read_term left text t) (λ k'. both (λ text. add_part s held k' t.place) (parts g.fuel)) term (failed (λ text. add_part s held k t.place) (parts g.fuel) h))

          pub again : {held' : Held} {r₃ : Reader} → Reads r₂ (Ok held') r₃ (λ text. add_part s held k t.place) → now.cutter.at < r₁.cutter.at → Going first r₃ held'
          again {held'} {r₃} h past =
              let down : suc (g.fuel - 1) ≡ g.fuel = omega (arith, ap length token.onward.text) in
              let on : Onward now r₃ = onwards token.onward (onwards term.onward h.onward) in
              record {
                fuel = g.fuel - 1;
                enough = omega (arith, ap length on.text);
                same = ap (λ n. from r₃ (parts n held')) down ∙ reached (λ text. add_part s held k t.place) (parts g.fuel) h
                    ∙ reached (λ text. read_term left text t) (λ k'. both (λ text. add_part s held k' t.place) (parts g.fuel)) term
                    ∙ opened ∙ token_reached (turn g.fuel held) token ∙ g.same;
                onward = onwards g.onward on;
                within = added s held k t.place (nodes_of r₂.sheet.now) r₂.cutter.at held' (nodes_of r₃.sheet.now) r₃.cutter.at there.few there.there h.outcome;
              }
