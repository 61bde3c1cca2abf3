use Rattle.std.proofs.Common.{◌≡◌, ℕ, ◌<◌, false, None, Ok, Decides, arith}
use Rattle.frames.specs.Order.{le}
use Rattle.frames.specs.declared.draft.Draft.{Draft}
use Rattle.frames.specs.declared.relation.Relation.{Relation}
use Rattle.frames.specs.Drafts.{Framed}
use Rattle.frames.specs.Closing.{closure, amiss, closing}
use Rattle.frames.specs.Laws.{Chain, Drawn}
use Rattle.frames.specs.View.{Made, draft_of}
use Rattle.frames.specs.Bounds.{reflexive_by, transitive_by, antisymmetric_by, complete_by}
use Rattle.frames.proofs.Closing.{drawn_of}
use Rattle.frames.proofs.draft.Draft.close.Goals as goal

-- the frame of an order with which nothing is amiss, from what the calls answered
drawn : (d : Draft) (order : Relation) → Made d.lines (closure d.lines.size d.lines.word) order → None ≡ amiss order.size order.word
    → Drawn (draft_of d) (record { size = order.size; order = order.word })
drawn d order made none =
    let F : Framed = record { size = order.size; order = order.word } in
    let granted : Ok F ≡ closing (draft_of d) = grind (arith, made, none) in drawn_of (draft_of d) d.lines.few F granted

pub invariant_of-result : goal.invariant_of-result
invariant_of-result c =
    let D = draft_of c.args.self in
    let n = c.closure-order.result.size in
    let w = c.closure-order.result.word in
    let d = drawn c.args.self c.closure-order.result c.closure-order.ensures c.in-Ok.ensures in
    let decides : (a b : ℕ) → a < n → b < n → Decides (le w false a b) (Chain D a b) = λ a b p q. d.decides a b (omega (arith, d.same_size)) (omega (arith, d.same_size)) in
    let o = d.lattice.order in
    record {
      reflexive = reflexive_by n w (Chain D) decides o;
      transitive = transitive_by n w (Chain D) decides o;
      antisymmetric = antisymmetric_by n w (Chain D) decides o;
      complete = complete_by n w (Chain D) decides d.lattice;
    }

pub returns-in-Ok-clause-law : goal.returns-in-Ok-clause-law
returns-in-Ok-clause-law c = drawn c.args.self c.closure-order.result c.closure-order.ensures c.in-Ok.ensures
