-- A trial by its fields: how the slots of its nodes stand, and how they are filled.
--   NodeStrays, NodeReady t k   node k is a variable whose slot is not admitted; it is none, or its slot is
--   AllReady t                  the slots of the variables are admitted
--   FirstStray t k              of the variables, k is the first whose slot is not admitted
--   Fills n before after        the slots of the first n nodes are filled, bottom up, and admitted; nothing else changes
use Rattle.std.specs.Prelude.{◌≡◌, ℕ, List}
use Rattle.free_lattice.specs.Lattices.{Meaning}
use Rattle.lattice.specs.declared.lattice.Lattice.{Ghosts}
use Rattle.sheet.specs.declared.node.Node.{Node}
use Rattle.sheet.specs.View.{nodes_of}
use Rattle.trying.specs.Trying.{ReadyAt, Ready, Strays, Stray, Filled, Admitted}
use Rattle.trying.specs.declared.trying.Trial.{Trial}

module _ {L E : Type 0} {g : Ghosts L E} where
  abbrev pub means : Trial L E g → Meaning E
  means t = g.means t.lattice.now

  abbrev pub nodes : Trial L E g → List Node
  nodes t = nodes_of t.sheet.now

  abbrev pub NodeReady : Trial L E g → ℕ → Type 0
  NodeReady t k = ReadyAt (means t) (nodes t) t.slots.now k

  abbrev pub NodeStrays : Trial L E g → ℕ → Type 0
  NodeStrays t k = Strays (means t) (nodes t) t.slots.now k

  abbrev pub AllReady : Trial L E g → Type 0
  AllReady t = Ready (means t) (nodes t) t.end t.slots.now

  abbrev pub FirstStray : Trial L E g → ℕ → Type 0
  FirstStray t k = Stray (means t) (nodes t) t.end t.slots.now k

  -- all but what stands in the slots stays
  pub record Kept (before after : Trial L E g) : Type 0 where
    pub lattice : after.lattice ≡ before.lattice
    pub sheet : after.sheet ≡ before.sheet
    pub end : after.end ≡ before.end
    pub lender : after.slots.ghost_name ≡ before.slots.ghost_name

  pub record Fills (n : ℕ) (before after : Trial L E g) : Type 0 where
    pub kept : Kept before after
    pub slots : Filled (means before) (nodes before) n before.slots.now after.slots.now
    pub admitted : Admitted (means before) n after.slots.now
