-- What is always true of a sheet, in the words of its state.
use Rattle.std.proofs.Common.{◌≡◌, ◌≤◌, vec_items, vec_len, sym, ◌∙◌, subst, arith}
use Rattle.sheet.specs.declared.sheet.Sheet.{Sheet}
use Rattle.sheet.specs.Records.{Inside}
use Rattle.sheet.specs.State.{count}
use Rattle.sheet.specs.View.{state, memo_of}
use Rattle.sheet.proofs.Records.{nodes_length}

pub count_is : (s : Sheet) → vec_len s.records ≡ count (state s)
count_is s = s.records.ok.0 ∙ sym (nodes_length (vec_items s.records))

pub at_most : (s : Sheet) → count (state s) ≤ 60
at_most s = omega (arith, s.few, count_is s)

pub settled_inside : (s : Sheet) → Inside (count (state s)) (memo_of s)
settled_inside s = subst (λ n. Inside n (memo_of s)) (count_is s) s.inside
