use Rattle.std.proofs.Common.{◌∙◌, vec_items, rules, tests, arith}
use Rattle.std.proofs.lemmas.Iterator.{YieldsList-from_slice}
use Rattle.std.proofs.lemmas.Iterator.Adapters.{position_from-zero}
use Rattle.std.proofs.lemmas.Iterator.Search.{position_from_yields_List}
use Rattle.sheet.specs.declared.node.Record.{Record}
use Rattle.sheet.specs.contracts.node.NodePartialEq.TheImpl.{ghosts}
use Rattle.sheet.proofs.Nodes.{position_of_nodes}
use Rattle.sheet.proofs.sheet.Sheet.find.Goals as goal

pub returns : goal.returns
returns c =
    let rs = vec_items c.args.self.now.records in
    let n = c.args.node in
    let test = λ (r : Record). ghosts.eq r.node n in
    let told = position_from_yields_List test _ _ c.position.result c.position.ensures.ran (YieldsList-from_slice rs cc) (λ x b q k. search (rules, tests)) in
    let found = position_from-zero test rs ∙ position_of_nodes n 0 rs in
    grind (arith, told, found)
