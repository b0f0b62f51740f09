-- Laws of what verifies.
use Rattle.std.proofs.Common.{◌≡◌, List, [], ◌∷◌, ◌++◌, map, refl, sym, ap, subst, ◌∙◌, append_assoc, append-nil}
use Rattle.std.specs.Prelude.{find, Option, Some, None, Ok, is_some, if◌then◌else◌}
use Rattle.std.specs.Str.{bytes_eq}
use Rattle.std.specs.Option.{option_map, option_and_then}
use Rattle.mmsyntax.proofs.Options.{mapped_some}
use Rattle.mmsyntax.proofs.Items.{found_is_any, not_found_is_none}
use Rattle.source.specs.Scopes.{label_of, Assertion}
use Rattle.source.specs.Proofs.{Tree, node, over, Step, there, cite, put, push, made, denoted_by, steps_of}
use Rattle.verifying.specs.Citations.{Expression}
use Rattle.verifying.specs.Verifies.{before, all_of, made_of, named, entry, AreVerified}
use Rattle.verifying.specs.Laws.{value, values, TreesAreDerived, FinishedAreDerived, HypothesesArePut, CitationsArePut, PartsVerify}
use Rattle.source.proofs.Alike.{made_alike}
use Rattle.source.proofs.Finished.{made_there}

each_value : (earlier : List Assertion) (x : Assertion) (ts : List Tree) → values earlier x (over ts) ≡ map (value earlier x) ts
each_value earlier x [] = refl
each_value earlier x (t ∷ ts) = ap (λ es. value earlier x t ∷ es) (each_value earlier x ts)

values_made : (earlier : List Assertion) (x : Assertion) (steps : List Step)
    → made (entry earlier x) earlier x.active steps ≡ option_map (value earlier x) (denoted_by earlier x.active steps)
values_made earlier x =
    made_alike (value earlier x) (λ w ts. node w (over ts)) (entry earlier x) (λ w ts. ap (entry earlier x w) (each_value earlier x ts))
    earlier x.active

derived_of : (earlier : List Assertion) (x : Assertion) (steps : Option (List Step))
    → option_and_then (made (entry earlier x) earlier x.active) steps
    ≡ option_map (value earlier x) (option_and_then (denoted_by earlier x.active) steps)
derived_of earlier x None = refl
derived_of earlier x (Some steps) = values_made earlier x steps

pub trees_are_derived : TreesAreDerived
trees_are_derived earlier x proof = derived_of earlier x (steps_of x.hypotheses proof)

-- where trees are there, expressions are
there_made : (earlier : List Assertion) (x : Assertion) (steps : Option (List Step))
    → is_some (option_and_then (made there earlier x.active) steps)
    ≡ is_some (option_and_then (made (entry earlier x) earlier x.active) steps)
there_made earlier x None = refl
there_made earlier x (Some steps) =
    ap is_some (made_alike (λ e. tt) (entry earlier x) there (λ w es. refl) earlier x.active steps)
    ∙ mapped_some (λ e. tt) (made (entry earlier x) earlier x.active steps)

pub finished_are_derived : FinishedAreDerived
finished_are_derived earlier x proof finished h =
    sym (there_made earlier x (steps_of x.hypotheses proof)) ∙ made_there earlier x.active x.hypotheses proof h

-- ---- parts

to_parts : (earlier xs ys : List Assertion) → AreVerified earlier (xs ++ ys) → AreVerified earlier xs × AreVerified (earlier ++ xs) ys
to_parts earlier [] ys h = (tt, subst (λ e. AreVerified e ys) (sym (append-nil earlier)) h)
to_parts earlier (x ∷ xs) ys h =
    let later = to_parts (earlier ++ x ∷ []) xs ys h.1 in
    ((h.0, later.0), subst (λ e. AreVerified e ys) (append_assoc earlier (x ∷ []) xs) later.1)

of_parts : (earlier xs ys : List Assertion) → AreVerified earlier xs → AreVerified (earlier ++ xs) ys → AreVerified earlier (xs ++ ys)
of_parts earlier [] ys front h = subst (λ e. AreVerified e ys) (append-nil earlier) h
of_parts earlier (x ∷ xs) ys front h =
    (front.0, of_parts (earlier ++ x ∷ []) xs ys front.1 (subst (λ e. AreVerified e ys) (sym (append_assoc earlier (x ∷ []) xs)) h))

pub parts_verify : PartsVerify
parts_verify earlier xs ys = (to_parts earlier xs ys, λ h. of_parts earlier xs ys h.0 h.1)

-- ---- each kind of step

pub hypotheses_are_put : HypothesesArePut
hypotheses_are_put earlier x s w h e =
    ap (cite (entry earlier x) w s)
    (ap (λ b. if b then Some [] else option_map (λ a. a.hypotheses) (find (λ a. bytes_eq w a.label) earlier))
    (found_is_any (λ h. bytes_eq w (label_of h)) x.active h e))
    ∙ ap (λ o. Some (push s (named x [] o (find (λ c. bytes_eq w c.label) earlier)))) e

all_stand : (es : List Expression) → all_of (map (λ e. Ok e) es) ≡ Ok es
all_stand [] = refl
all_stand (e ∷ es) = ap (before (Ok e)) (all_stand es)

pub citations_are_put : CitationsArePut
citations_are_put earlier x s w c es rest none_active is_cited popped =
    ap (cite (entry earlier x) w s)
    (ap (λ b. if b then Some [] else option_map (λ a. a.hypotheses) (find (λ a. bytes_eq w a.label) earlier))
    (not_found_is_none (λ h. bytes_eq w (label_of h)) x.active none_active)
    ∙ ap (option_map (λ a. a.hypotheses)) is_cited)
    ∙ ap (put (entry earlier x) w s.marked) popped
    ∙ ap (λ y. Some (record { entries = y ∷ rest; marked = s.marked }))
    (ap (λ o. named x (map (λ e. Ok e) es) o (find (λ c. bytes_eq w c.label) earlier)) none_active
    ∙ ap (named x (map (λ e. Ok e) es) None) is_cited
    ∙ ap (made_of x c) (all_stand es))
