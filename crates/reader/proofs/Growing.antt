-- Reading only adds nodes behind those that were there.
use Rattle.std.proofs.Common.{◌≡◌, ℕ, zero, suc, Bool, true, false, cond, ltb, List, [], ◌∷◌, ◌++◌, length, Some, None, Ok, Err, Option, Result, sym, refl, ap, ◌∙◌, subst, append_assoc, append-nil}
use Rattle.sheet.specs.declared.node.Node.{Node}
use Rattle.sheet.specs.declared.node.Node.TheVariants as node
use Rattle.reader.specs.declared.token.Kind.{Kind}
use Rattle.reader.specs.declared.token.Kind.TheVariants.{Open, Close, Plus, Star, Variable}
use Rattle.reader.specs.declared.token.Token.{Token}
use Rattle.reader.specs.declared.reader.Sign.{Sign}
use Rattle.reader.specs.declared.reader.Held.{Held}
use Rattle.reader.specs.declared.reader.Held.TheVariants.{Nothing, One, Several}
use Rattle.sheet.specs.Nodes.{find}
use Rattle.sheet.specs.Enter.{grown}
use Rattle.reader.specs.Faults.{Row}
use Rattle.reader.specs.Reading.{Outcome, ended, bind, refuse, next, or_end, due, enter_at, sign_of, read_sign, pair, add_part, close_list, is_close, read_parts, read_list, by_kind, read_term, read_whole}

pub record Grown (ns ns' : List Node) : Type 0 where
  pub more : List Node
  pub is : ns' ≡ ns ++ more

abbrev pub after : {A : Type 0} → Outcome A → List Node
after (ended r ns at) = ns

pub record More {A : Type 0} (ns : List Node) (o : Outcome A) : Type 0 where
  pub grows : Grown ns (after o)

none : (ns : List Node) → Grown ns ns
none ns = record { more = []; is = sym (append-nil ns) }

still : {A : Type 0} (r : Result A Row) (ns : List Node) (at : ℕ) → More ns (ended r ns at)
still r ns at = record { grows = none ns }

both : (ns ns' ns'' : List Node) → Grown ns ns' → Grown ns' ns'' → Grown ns ns''
both ns ns' ns'' g h = record { more = g.more ++ h.more; is = h.is ∙ ap (λ l. l ++ h.more) g.is ∙ append_assoc ns g.more h.more }

bound : {A B : Type 0} {ns : List Node} (o : Outcome A) (k : A → List Node → ℕ → Outcome B) → More ns o → ((a : A) (ns' : List Node) (at : ℕ) → More ns' (k a ns' at)) → More ns (bind o k)
bound (ended (Ok a) ns' at) k g h = record { grows = both _ _ _ g.grows (h a ns' at).grows }
bound (ended (Err e) ns' at) k g h = record { grows = g.grows }

ended_or : {A : Type 0} {ns : List Node} (o : Option Token) (e : Outcome A) (k : Token → Outcome A) → More ns e → ((t : Token) → More ns (k t)) → More ns (or_end o e k)
ended_or None e k g h = g
ended_or (Some t) e k g h = h t

due_more : {A : Type 0} (text : List ℕ) (ns : List Node) (at : ℕ) (k : Token → List Node → ℕ → Outcome A) → ((t : Token) (ns' : List Node) (at' : ℕ) → More ns' (k t ns' at')) → More ns (due text ns at k)
due_more text ns at k h =
    bound (next text ns at) (λ o ns' at'. or_end o (refuse 3 (length text) ns' at') (λ t. k t ns' at')) (still _ ns _) (λ o ns' at'. ended_or o (refuse 3 (length text) ns' at') (λ t. k t ns' at') (still _ ns' at') (λ t. h t ns' at'))

room_more : (ns : List Node) (n : Node) (b : Bool) → Grown ns (cond b (ns ++ n ∷ []) ns)
room_more ns n true = record { more = n ∷ []; is = refl }
room_more ns n false = none ns

grown_more : (ns : List Node) (n : Node) (o : Option ℕ) → Grown ns (grown ns n o)
grown_more ns n (Some k) = none ns
grown_more ns n None = room_more ns n (ltb (length ns) 60)

signed_more : (t : Token) (ns : List Node) (at : ℕ) (k : Kind) → More ns (sign_of t ns at k)
signed_more t ns at Plus = still _ ns at
signed_more t ns at Star = still _ ns at
signed_more t ns at Open = still _ ns at
signed_more t ns at Close = still _ ns at
signed_more t ns at (Variable c) = still _ ns at

adding_more : (s : Sign) (held : Held) (part p : ℕ) (ns : List Node) (at : ℕ) → More ns (add_part s held part p ns at)
adding_more s Nothing part p ns at = still _ ns at
adding_more s (One whole) part p ns at = bound (enter_at (pair s whole part) p ns at) (λ k ns' at'. ended (Ok (Several k)) ns' at') (record { grows = grown_more ns (pair s whole part) (find ns (pair s whole part)) }) (λ k ns' at'. still _ ns' at')
adding_more s (Several whole) part p ns at = bound (enter_at (pair s whole part) p ns at) (λ k ns' at'. ended (Ok (Several k)) ns' at') (record { grows = grown_more ns (pair s whole part) (find ns (pair s whole part)) }) (λ k ns' at'. still _ ns' at')

abbrev Extends : (Token → List Node → ℕ → Outcome ℕ) → Type 0
Extends term = (t : Token) (ns : List Node) (at : ℕ) → More ns (term t ns at)

cond_more : {A : Type 0} {ns : List Node} (b : Bool) (x y : Outcome A) → More ns x → More ns y → More ns (cond b x y)
cond_more true x y g h = g
cond_more false x y g h = h

parts_more : (fuel : ℕ) (term : Token → List Node → ℕ → Outcome ℕ) → Extends term → (text : List ℕ) (s : Sign) (held : Held) (ns : List Node) (at : ℕ) → More ns (read_parts fuel term text s held ns at)
parts_more zero term a text s held ns at = still _ ns at
parts_more (suc fuel) term a text s held ns at =
    due_more text ns at _ (λ t ns' at'.
    cond_more (is_close t.kind) (ended (close_list held t.place) ns' at') _ (still _ ns' at')
    (bound (term t ns' at') _ (a t ns' at') (λ part ns'' at''. bound (add_part s held part t.place ns'' at'') _ (adding_more s held part t.place ns'' at'') (λ held' ns''' at'''. parts_more fuel term a text s held' ns''' at'''))))

listed_more : (term : Token → List Node → ℕ → Outcome ℕ) → Extends term → (text : List ℕ) (ns : List Node) (at : ℕ) → More ns (read_list term text ns at)
listed_more term a text ns at =
    bound (read_sign text ns at) _ (due_more text ns at _ (λ t ns' at'. signed_more t ns' at' t.kind)) (λ s ns' at'. parts_more (suc (length text)) term a text s Nothing ns' at')

kind_more : (t : Token) (ns : List Node) (at : ℕ) (o : Outcome ℕ) (k : Kind) → More ns o → More ns (by_kind t ns at o k)
kind_more t ns at o (Variable c) h = record { grows = grown_more ns (node.Variable c) (find ns (node.Variable c)) }
kind_more t ns at o Open h = h
kind_more t ns at o Close h = still _ ns at
kind_more t ns at o Plus h = still _ ns at
kind_more t ns at o Star h = still _ ns at

term_more : (left : ℕ) (text : List ℕ) → Extends (read_term left text)
term_more zero text t ns at = kind_more t ns at _ t.kind (still _ ns at)
term_more (suc left) text t ns at = kind_more t ns at _ t.kind (listed_more (read_term left text) (term_more left text) text ns at)

whole_more : (text : List ℕ) (ns : List Node) (at : ℕ) → More ns (read_whole text ns at)
whole_more text ns at =
    due_more text ns at _ (λ t ns' at'. bound (read_term 16 text t ns' at') _ (term_more 16 text t ns' at') (λ k ns'' at''.
    bound (next text ns'' at'') _ (still _ ns'' _) (λ o ns''' at'''. ended_or o (ended (Ok k) ns''' at''') _ (still _ ns''' at''') (λ extra. still _ ns''' at'''))))

-- so the nodes that were there come back when the others are taken off
pub grown_by : (text : List ℕ) (ns : List Node) (at : ℕ) (r : Result ℕ Row) (ns' : List Node) (at' : ℕ) → ended r ns' at' ≡ read_whole text ns at → Grown ns ns'
grown_by text ns at r ns' at' e = (subst (More ns) (sym e) (whole_more text ns at)).grows
