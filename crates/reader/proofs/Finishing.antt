-- What read leaves, once the whole text was read or a fault was met.
use Rattle.std.proofs.Common.{◌≡◌, ℕ, true, false, List, is_err, Ok, Err, Result, sym, refl, ap, ◌∙◌, subst}
use Rattle.sheet.specs.declared.node.Node.{Node}
use Rattle.sheet.specs.declared.sheet.Sheet.{Sheet}
use Rattle.sheet.specs.State.{State, count}
use Rattle.sheet.specs.Keep.{kept}
use Rattle.sheet.specs.View.{state, nodes_of}
use Rattle.sheet.proofs.Keep.{kept_back}
use Rattle.sheet.proofs.View.{at_most, settled_inside}
use Rattle.reader.specs.declared.fault.Fault.{Fault}
use Rattle.reader.specs.Faults.{Row, told}
use Rattle.reader.specs.Reading.{ended, read_whole, finished, reading}
use Rattle.reader.specs.declared.reader.Reader.{Reader}
use Rattle.reader.specs.Steps.{Reads}
use Rattle.reader.specs.Exact.{Exact}
use Rattle.reader.proofs.Growing.{grown_by}
use Rattle.reader.proofs.Exact.{exact}

finished_err : (S : State) (r : Result ℕ Fault) (ns : List Node) (at : ℕ) → is_err r ≡ true → (S, told r) ≡ finished S (ended (told r) ns at)
finished_err S (Ok k) ns at h = absurd (cc)
finished_err S (Err f) ns at h = refl

finished_ok : (S : State) (r : Result ℕ Fault) (ns : List Node) (at : ℕ) → is_err r ≡ false → (record { nodes = ns; memo = S.memo }, told r) ≡ finished S (ended (told r) ns at)
finished_ok S (Ok k) ns at h = refl
finished_ok S (Err f) ns at h = absurd (cc)

-- what read promises, where it leaves the sheet as `after`
abbrev pub Read : Sheet → List ℕ → State → Result ℕ Row → Type 0
Read before text after r = record { does : (after, r) ≡ reading (state before) text; exact : Exact text (nodes_of before) after.nodes r }

module _ {start stop : Reader} (r : Result ℕ Fault) (reads : Reads start (told r) stop read_whole) {text : List ℕ} (at : start.cutter.at ≡ 0) (same : start.cutter.text.now ≡ text) where
  outcome : ended (told r) (nodes_of stop.sheet.now) stop.cutter.at ≡ read_whole text (nodes_of start.sheet.now) 0
  outcome = reads.outcome ∙ (λ i. read_whole (same i) (nodes_of start.sheet.now) (at i))

  lawful : (after : State) → (after, told r) ≡ reading (state start.sheet.now) text → Read start.sheet.now text after (told r)
  lawful after does =
      record { does = does; exact = subst (λ p. Exact text (nodes_of start.sheet.now) p.0.nodes p.1) (sym does) (exact text (state start.sheet.now) (at_most start.sheet.now) start.sheet.now.grounded start.sheet.now.distinct) }

  pub refused : (after : State) → after ≡ kept (count (state start.sheet.now)) (state stop.sheet.now) → is_err r ≡ true → Read start.sheet.now text after (told r)
  refused after back h =
      let g = grown_by text (nodes_of start.sheet.now) 0 (told r) (nodes_of stop.sheet.now) stop.cutter.at outcome in
      let nodes = g.is in
      let memo = reads.onward.memo in
      let as_it_was : after ≡ state start.sheet.now = back ∙ (λ i. kept (count (state start.sheet.now)) (record { nodes = nodes i; memo = memo i })) ∙ kept_back (state start.sheet.now) g.more (settled_inside start.sheet.now) in
      lawful after (ap (λ s. (s, told r)) as_it_was ∙ finished_err (state start.sheet.now) r (nodes_of stop.sheet.now) stop.cutter.at h ∙ ap (finished (state start.sheet.now)) outcome)

  pub granted : (after : State) → after ≡ state stop.sheet.now → is_err r ≡ false → Read start.sheet.now text after (told r)
  granted after as_left h =
      let memo = reads.onward.memo in
      lawful after (ap (λ s. (s, told r)) as_left ∙ (λ i. (record { nodes = nodes_of stop.sheet.now; memo = memo i }, told r)) ∙ finished_ok (state start.sheet.now) r (nodes_of stop.sheet.now) stop.cutter.at h ∙ ap (finished (state start.sheet.now)) outcome)
