use Rattle.std.proofs.Common.{refl, ap, arith, rules}
use Rattle.sheet.specs.declared.node.Node.TheVariants.{Meet, Join}
use Rattle.trying.specs.Trials.{means}
use Rattle.trying.proofs.Turns.{turn_variable, turn_made}
use Rattle.trying.proofs.trying.Trial.fill.Goals as goal
use Rattle.trying.proofs.trying.Trial.fill.Goals.{in-Variable, in-Meet, in-Join}

pub loop-k-preserved : goal.loop-k-preserved
loop-k-preserved g c =
    let before = c.args.self.now in
    let now = c.loop-k.self in
    let after = c.match-node.self in
    let m = means before in
    let laws = g.met.L.Lattice.laws before.lattice.now in
    let k = c.loop-k.k in
    elim c.match-node.branch [
      | in-Variable w ↦ turn_variable before now after k c.loop-k.invariant (search rules) _ w.in-Variable.ensures.is (omega arith) c.requires (search rules)
      | in-Meet w ↦
          turn_made before now after k c.loop-k.invariant (search rules) m.meet laws.meet_admitted (Meet _ _) _ _ (λ d l. refl) w.in-Meet.ensures.is w.in-Meet.ensures.parts _ _ _
          (omega arith) w.index-self-a.is w.index-self-b.is (search rules) (ap (λ x. x.slots.now) w.self-is)
      | in-Join w ↦
          turn_made before now after k c.loop-k.invariant (search rules) m.join laws.join_admitted (Join _ _) _ _ (λ d l. refl) w.in-Join.ensures.is w.in-Join.ensures.parts _ _ _
          (omega arith) w.index-self-a-in-Join.is w.index-self-b-in-Join.is (search rules) (ap (λ x. x.slots.now) w.self-is)
    ]
