-- What entering a node answers in each case, and what a grant means.
use Rattle.std.proofs.Common.{◌≡◌, ℕ, ◌<◌, Bool, true, false, cond, ◌&&◌, ltb, leb, List, [], ◌∷◌, ◌++◌, length, get_or, Some, None, Ok, Err, Option, Result, sym, refl, ap, ◌∙◌, arith}
use Rattle.std.proofs.lemmas.List.{length_push, get_or_push, get_or_append_left}
use Rattle.std.proofs.lemmas.Bool.{lt-ltb}
use Rattle.free_lattice.specs.Terms.{var}
use Rattle.sheet.specs.declared.node.Node.{Node}
use Rattle.sheet.specs.declared.node.Node.TheVariants.{Variable, Meet, Join}
use Rattle.sheet.specs.Nodes.{find, fits, Grounded, terms, term_of}
use Rattle.refused.specs.Refused.{Refused, refused, tested, and_then}
use Rattle.sheet.specs.State.{State, count}
use Rattle.sheet.specs.Enter.{present, judged, numbered, grown, entering_by, entering, Entered}
use Rattle.sheet.proofs.Nodes.{found}
use Rattle.sheet.proofs.Terms.{term_is, term_stays, terms_push, terms_length}

both_there : (n a b : ℕ) → and_then (present n a) (present n b) ≡ Ok tt → (ltb a n && ltb b n) ≡ true
both_there n a b h = go (ltb a n) (ltb b n) h
  where
    go : (x y : Bool) → and_then (tested x (refused 9 (a ∷ []))) (tested y (refused 9 (b ∷ []))) ≡ Ok tt → (x && y) ≡ true
    go true true e = refl
    go true false e = absurd (cc)
    go false y e = absurd (cc)

-- what is not refused for its code or its parts fits
pub judged_fits : (n : ℕ) (x : Node) → judged n x ≡ Ok tt → fits n x ≡ true
judged_fits n (Variable c) h = go (leb c 2625) h
  where
    go : (x : Bool) → tested x (refused 10 []) ≡ Ok tt → x ≡ true
    go true e = refl
    go false e = absurd (cc)
judged_fits n (Meet a b) h = both_there n a b h
judged_fits n (Join a b) h = both_there n a b h

-- the three answers where nothing is wrong with the code or the parts
module _ (S : State) (n : Node) (good : judged (count S) n ≡ Ok tt) where
  abbrev by : Option ℕ → State × Result ℕ Refused
  by o = (record { nodes = grown S.nodes n o; memo = S.memo }, numbered S.nodes o)

  going : (o : Option ℕ) → find S.nodes n ≡ o → by o ≡ entering S n
  going o e = ap by (sym e) ∙ sym (ap (entering_by S n) good)

  pub entering_old : (k : ℕ) → find S.nodes n ≡ Some k → (S, Ok k) ≡ entering S n
  entering_old k e = going (Some k) e

  pub entering_new : find S.nodes n ≡ None → count S < 60 → (record { nodes = S.nodes ++ n ∷ []; memo = S.memo }, Ok (count S)) ≡ entering S n
  entering_new e lt =
      sym (ap (λ b. (record { nodes = cond b (S.nodes ++ n ∷ []) S.nodes; memo = S.memo }, cond b (Ok (count S)) (Err (refused 8 [])))) (lt-ltb (count S) 60 lt)) ∙ going None e

-- what a grant means
pub entered_old : (ns : List Node) (n : Node) (k : ℕ) → Grounded ns → find ns n ≡ Some k → Entered ns n ns k
entered_old ns n k g e =
    let f = found ns k n e in
    record {
      there = f.0;
      means = term_is ns k g f.0 ∙ ap (term_of (terms ns)) f.1;
      earlier = λ i lt. (lt, refl, refl);
      one = omega arith;
    }

pub entered_new : (ns : List Node) (n : Node) → Entered ns n (ns ++ n ∷ []) (length ns)
entered_new ns n =
    record {
      there = omega (arith, length_push ns n);
      means = ap (λ l. get_or l (length ns) (var 0)) (terms_push ns n) ∙ get_or_push (terms ns) (term_of (terms ns) n) (var 0) (length ns) (terms_length ns);
      earlier = λ i lt. (omega (arith, length_push ns n), get_or_append_left ns (n ∷ []) (Variable 0) i lt, term_stays ns (n ∷ []) i lt);
      one = omega (arith, length_push ns n);
    }
