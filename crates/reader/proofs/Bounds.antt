-- A part of a list is a node that is there, and so is what the list holds: the reader meets no other refusal than a full sheet.
use Rattle.std.proofs.Common.{◌≡◌, ℕ, ◌<◌, ◌≤◌, List, length, Ok, sym, ap, subst, arith}
use Rattle.sheet.specs.declared.node.Node.{Node}
use Rattle.reader.specs.declared.token.Token.{Token}
use Rattle.reader.specs.declared.reader.Sign.{Sign}
use Rattle.reader.specs.declared.reader.Held.{Held}
use Rattle.reader.specs.declared.reader.Held.TheVariants.{Nothing, One, Several}
use Rattle.reader.specs.Reading.{ended, Within, add_part, pair, read_term}
use Rattle.reader.specs.Grammar.{term}
use Rattle.reader.proofs.Placing.{put_there, placed_there, placed_grows}
use Rattle.reader.proofs.Sound.{same, several_is, term_sound}

pub record Part (ns ns' : List Node) (k : ℕ) : Type 0 where
  pub there : k < length ns'
  pub grows : length ns ≤ length ns'
  pub few : length ns' ≤ 60

pub part : (left : ℕ) (text : List ℕ) (t : Token) (ns : List Node) (at k : ℕ) (ns' : List Node) (at' : ℕ) → length ns ≤ 60 → ended (Ok k) ns' at' ≡ read_term left text t ns at → Part ns ns' k
part left text t ns at k ns' at' le h =
    let s = term_sound left text t ns at k ns' at' le (sym h) in
    let n = ap length s.nodes in
    record { there = omega (arith, placed_there (term s.tree) ns, s.number, n); grows = omega (arith, placed_grows (term s.tree) ns, n); few = s.few }

pub within_more : (held : Held) (m n : ℕ) → Within m held → m ≤ n → Within n held
within_more Nothing m n h le = tt
within_more (One k) m n h le = omega arith
within_more (Several k) m n h le = omega arith

pub added : (s : Sign) (held : Held) (part p : ℕ) (ns : List Node) (at : ℕ) (held' : Held) (ns' : List Node) (at' : ℕ) → length ns ≤ 60 → part < length ns → ended (Ok held') ns' at' ≡ add_part s held part p ns at → Within (length ns') held'
added s Nothing part p ns at held' ns' at' le lt h = let z = same (One part) held' ns ns' at at' (sym h) in subst (Within (length ns')) z.value (omega (arith, ap length z.nodes))
added s (One i) part p ns at held' ns' at' le lt h =
    let z = several_is 0 s ns (pair s i part) p ns at held' ns' at' le (sym h) in
    subst (Within (length ns')) (sym z.1) (omega (arith, put_there ns (pair s i part), z.2.number, ap length z.2.nodes))
added s (Several i) part p ns at held' ns' at' le lt h =
    let z = several_is 0 s ns (pair s i part) p ns at held' ns' at' le (sym h) in
    subst (Within (length ns')) (sym z.1) (omega (arith, put_there ns (pair s i part), z.2.number, ap length z.2.nodes))
