-- An entry that failed stays on the stack, in it or in what is made of it: so a proof that derives its statement has no fault, and the
-- other way round.
use Rattle.std.proofs.Common.{◌≡◌, Bool, true, false, ◌||◌, List, [], ◌∷◌, ◌++◌, refl, sym, ap, subst, ◌∙◌, append_assoc, append-nil, inl, inr}
use Rattle.std.specs.Prelude.{codes, find, is_err, slice_get, Option, Some, None, Ok, Err, if◌then◌else◌}
use Rattle.std.specs.Option.{option_map, option_or, option_and_then}
use Rattle.std.specs.List.{list_any}
use Rattle.std.specs.Str.{bytes_eq}
use Rattle.std.proofs.lemmas.Bool.{cases_Bool, or_right}
use Rattle.std.proofs.lemmas.Option.{same_Some}
use Rattle.std.proofs.lemmas.Slice.Eq.{slice_eq-Decides, bytes_eq-Decides}
use Rattle.mmtext.specs.Words.{Word}
use Rattle.mmsyntax.proofs.Options.{none_is}
use Rattle.mmsyntax.proofs.Items.{some_found}
use Rattle.derivation.specs.declared.fault.ProofFault.{ProofFault}
use Rattle.derivation.specs.declared.fault.ProofFaultKind.{ProofFaultKind}
use Rattle.derivation.specs.declared.fault.ProofFaultKind.TheVariants.{StatementDiffers}
use Rattle.source.specs.Scopes.{Hypothesis, label_of, Assertion}
use Rattle.source.specs.Proofs.{Step, names, again, marks, unknown, taken_by, Stack, empty, pop, put, cite, repeat, mark, stepped, run_steps, only, single, made}
use Rattle.verifying.specs.Citations.{Expression, same_expression}
use Rattle.verifying.specs.Verifies.{Entry, before, all_of, made_of, named, entry}
use Rattle.verifying.specs.Faults.{last_failure, failure_behind}
use Rattle.verifying.specs.Faults.{at_end, differs, fault_from}

failed : List Entry → Bool
failed es = list_any is_err es

module _ (earlier : List Assertion) (x : Assertion) where
  all_failed : (es : List Entry) → failed es ≡ true → (k : ProofFaultKind) × (all_of es ≡ Err k)
  unfolding failed
  all_failed [] h = absurd cc
  all_failed (Err k ∷ es) h = (k, refl)
  all_failed (Ok e ∷ es) h = let r = all_failed es h in (r.0, ap (before (Ok e)) r.1)

  named_failed : (es : List Entry) (c : Option Assertion) → failed es ≡ true → is_err (named x es None c) ≡ true
  named_failed es None h = refl
  named_failed es (Some c) h = ap (λ r. is_err (made_of x c r)) (all_failed es h).1

  entry_failed : (w : Word) (es : List Entry) → find (λ h. bytes_eq w (label_of h)) x.active ≡ None → failed es ≡ true
      → is_err (entry earlier x w es) ≡ true
  entry_failed w es none h =
      ap (λ o. is_err (named x es o (find (λ c. bytes_eq w c.label) earlier))) none
      ∙ named_failed es (find (λ c. bytes_eq w c.label) earlier) h

  pop_failed : (hs : List Hypothesis) (xs off : List Entry) (p : List Entry × List Entry) → pop hs xs off ≡ Some p
      → (failed off || failed xs) ≡ true → (failed p.0 || failed p.1) ≡ true
  unfolding failed
  pop_failed [] xs off p e h = subst (λ q. (failed q.0 || failed q.1) ≡ true) (same_Some (off, xs) p e) h
  pop_failed (g ∷ hs) [] off p e h = absurd cc
  pop_failed (g ∷ hs) (Ok y ∷ xs) off p e h = pop_failed hs xs (Ok y ∷ off) p e h
  pop_failed (g ∷ hs) (Err k ∷ xs) off p e h = pop_failed hs xs (Err k ∷ off) p e refl

  put_failed : (w : Word) (ms : List Entry) (p : List Entry × List Entry) (t : Stack Entry)
      → find (λ h. bytes_eq w (label_of h)) x.active ≡ None → (failed p.0 || failed p.1) ≡ true
      → put (entry earlier x) w ms (Some p) ≡ Some t → failed t.entries ≡ true
  unfolding failed
  put_failed w ms p t none h e =
      subst (λ s. failed s.entries ≡ true) (same_Some _ t e)
      (elim (cases_Bool (failed p.0)) [
        | inl y ↦ ap (λ b. b || failed p.1) (entry_failed w p.0 none y)
        | inr n ↦ or_right (is_err (entry earlier x w p.0)) (failed p.1) (sym (ap (λ b. b || failed p.1) n) ∙ h)
      ])

  popped_failed : (w : Word) (s : Stack Entry) (hs : List Hypothesis) (o : Option (List Entry × List Entry)) (t : Stack Entry)
      → find (λ h. bytes_eq w (label_of h)) x.active ≡ None → failed s.entries ≡ true → pop hs s.entries [] ≡ o
      → put (entry earlier x) w s.marked o ≡ Some t → failed t.entries ≡ true
  unfolding failed
  popped_failed w s hs None t none h e f = absurd cc
  popped_failed w s hs (Some p) t none h e f = put_failed w s.marked p t none (pop_failed hs s.entries [] p e h) f

  cite_failed : (w : Word) (s : Stack Entry) (o : Option (List Hypothesis)) (t : Stack Entry)
      → find (λ h. bytes_eq w (label_of h)) x.active ≡ None → failed s.entries ≡ true
      → cite (entry earlier x) w s o ≡ Some t → failed t.entries ≡ true
  cite_failed w s None t none h e = absurd cc
  cite_failed w s (Some hs) t none h e = popped_failed w s hs (pop hs s.entries []) t none h refl e

  names_failed : (w : Word) (s t : Stack Entry) → failed s.entries ≡ true
      → cite (entry earlier x) w s (taken_by earlier x.active w) ≡ Some t → failed t.entries ≡ true
  unfolding failed
  names_failed w s t h e =
      let taken : Bool → Option (List Hypothesis) =
      λ b. if b then Some [] else option_map (λ a. a.hypotheses) (find (λ a. bytes_eq w a.label) earlier) in
      elim (cases_Bool (list_any (λ h. bytes_eq w (label_of h)) x.active)) [
        | inl y ↦
            subst (λ s. failed s.entries ≡ true) (same_Some _ t (sym (ap (λ b. cite (entry earlier x) w s (taken b)) y) ∙ e))
            (or_right (is_err (entry earlier x w [])) (failed s.entries) h)
        | inr n ↦ cite_failed w s (taken_by earlier x.active w) t (none_is _ (some_found _ x.active ∙ n)) h e
      ]

  again_failed : (s t : Stack Entry) (o : Option Entry) → failed s.entries ≡ true → repeat s o ≡ Some t → failed t.entries ≡ true
  unfolding failed
  again_failed s t None h e = absurd cc
  again_failed s t (Some y) h e = subst (λ s. failed s.entries ≡ true) (same_Some _ t e) (or_right (is_err y) (failed s.entries) h)

  mark_failed : (xs ms : List Entry) (t : Stack Entry) → failed xs ≡ true → mark xs ms ≡ Some t → failed t.entries ≡ true
  mark_failed [] ms t h e = absurd cc
  mark_failed (y ∷ xs) ms t h e = subst (λ s. failed s.entries ≡ true) (same_Some _ t e) h

  step_failed : (s t : Stack Entry) (step : Step) → failed s.entries ≡ true
      → stepped (entry earlier x) earlier x.active s step ≡ Some t → failed t.entries ≡ true
  unfolding failed
  step_failed s t (names w) h e = names_failed w s t h e
  step_failed s t (again n) h e = again_failed s t (slice_get s.marked n) h e
  step_failed s t marks h e = mark_failed s.entries s.marked t h e
  step_failed s t unknown h e =
      subst (λ s. failed s.entries ≡ true) (same_Some _ t e) (or_right (is_err (entry earlier x (codes "?") [])) (failed s.entries) h)

  run : Option (Stack Entry) → List Step → Option (Stack Entry)
  run s steps = run_steps (entry earlier x) earlier x.active s steps

  run_failed : (s : Option (Stack Entry)) (steps : List Step) (t : Stack Entry)
      → ((r : Stack Entry) → s ≡ Some r → failed r.entries ≡ true) → run s steps ≡ Some t → failed t.entries ≡ true
  unfolding run
  run_failed s [] t h e = h t e
  run_failed None (y ∷ ys) t h e = absurd cc
  run_failed (Some s) (y ∷ ys) t h e =
      run_failed (stepped (entry earlier x) earlier x.active s y) ys t (λ r f. step_failed s r y (h s refl) f) e

  run_append : (s : Option (Stack Entry)) (xs ys : List Step) → run s (xs ++ ys) ≡ run (run s xs) ys
  unfolding run
  run_append s [] ys = refl
  run_append None (x ∷ xs) [] = refl
  run_append None (x ∷ xs) (y ∷ ys) = refl
  run_append (Some s) (y ∷ xs) ys = run_append (stepped (entry earlier x) earlier x.active s y) xs ys

  -- ---- what derives has no fault

  made_by : List Step → Option Entry
  made_by steps = made (entry earlier x) earlier x.active steps

  -- the one entry that is left didn't fail
  only_passes : (es : List Entry) (e : Expression) → only es ≡ Some (Ok e) → failed es ≡ false
  unfolding failed
  only_passes [] e h = absurd cc
  only_passes (y ∷ []) e h = ap (λ y. is_err y || false) (same_Some y (Ok e) h)
  only_passes (y ∷ z ∷ es) e h = absurd cc

  -- so none of a stack from which the rest leads to it did
  never_failed : (s : Stack Entry) (rest : List Step) (e : Expression) (o : Option (Stack Entry)) → failed s.entries ≡ true
      → run (Some s) rest ≡ o → single o ≡ Some (Ok e) → ⊥
  never_failed s rest e None f g h = cc
  never_failed s rest e (Some t) f g h =
      let y : failed t.entries ≡ true = run_failed (Some s) rest t (λ r q. subst (λ z. failed z.entries ≡ true) (same_Some s r q) f) g in
      let n : failed t.entries ≡ false = only_passes t.entries e h in
      cc

  entries_pass : (s : Stack Entry) (es : List Entry) (rest : List Step) (e : Expression) → single (run (Some s) rest) ≡ Some (Ok e)
      → s.entries ≡ es → last_failure es ≡ None
  unfolding failed
  entries_pass s [] rest e h f = refl
  entries_pass s (Ok d ∷ es) rest e h f = refl
  entries_pass s (Err k ∷ es) rest e h f = absurd (never_failed s rest e (run (Some s) rest) (ap failed f) refl h)

  last_passes : (o : Option (Stack Entry)) (rest : List Step) (e : Expression) → single (run o rest) ≡ Some (Ok e)
      → option_and_then (λ s. last_failure s.entries) o ≡ None
  last_passes None rest e h = refl
  last_passes (Some s) rest e h = entries_pass s s.entries rest e h refl

  front_passes : (front rest : List Step) (e : Expression) → made (entry earlier x) earlier x.active (front ++ rest) ≡ Some (Ok e)
      → failure_behind earlier x front ≡ None
  unfolding run
  front_passes front rest e h =
      last_passes (run (Some empty) front) rest e (sym (ap single (run_append (Some empty) front rest)) ∙ h)

  -- ---- a proof that derives its statement has no fault

  same_statement : (e : Expression) → same_expression e e ≡ true
  same_statement e = (slice_eq-Decides bytes_eq-Decides e e (same_expression e e) refl).1 refl

  pub no_fault : (front rest : List Step) → made (entry earlier x) earlier x.active (front ++ rest) ≡ Some (Ok x.statement)
      → fault_from earlier x front rest ≡ None
  no_fault front [] h =
      ap (λ o. at_end front (option_and_then (differs x) o)) (ap (made (entry earlier x) earlier x.active) (sym (append-nil front)) ∙ h)
      ∙ ap (λ b. at_end front (if b then None else Some StatementDiffers)) (same_statement x.statement)
  no_fault front (y ∷ ys) h =
      let on : made (entry earlier x) earlier x.active ((front ++ y ∷ []) ++ ys) ≡ Some (Ok x.statement) =
      ap (made (entry earlier x) earlier x.active) (append_assoc front (y ∷ []) ys) ∙ h in
      ap (λ k. option_or (at_end (front ++ y ∷ []) k) (fault_from earlier x (front ++ y ∷ []) ys))
      (front_passes (front ++ y ∷ []) ys x.statement on)
      ∙ no_fault (front ++ y ∷ []) ys on

  -- ---- a proof without a fault derives its statement, if it denotes a tree

  no_front_fault : (front : List Step) (k : Option ProofFaultKind) (later : Option ProofFault) → option_or (at_end front k) later ≡ None
      → (k ≡ None) × (later ≡ None)
  no_front_fault front None later h = (refl, h)
  no_front_fault front (Some k) later h = absurd cc

  no_end_fault : (front : List Step) (k : Option ProofFaultKind) → at_end front k ≡ None → k ≡ None
  no_end_fault front None h = refl
  no_end_fault front (Some k) h = absurd cc

  whole_passes : (front rest : List Step) → failure_behind earlier x front ≡ None → fault_from earlier x front rest ≡ None
      → (failure_behind earlier x (front ++ rest) ≡ None)
      × (option_and_then (differs x) (made (entry earlier x) earlier x.active (front ++ rest)) ≡ None)
  whole_passes front [] passes h =
      subst (λ ss. (failure_behind earlier x ss ≡ None) × (option_and_then (differs x) (made (entry earlier x) earlier x.active ss) ≡ None))
      (sym (append-nil front)) (passes, no_end_fault front _ h)
  whole_passes front (y ∷ ys) passes h =
      let both = no_front_fault (front ++ y ∷ []) (failure_behind earlier x (front ++ y ∷ [])) _ h in
      subst (λ ss. (failure_behind earlier x ss ≡ None) × (option_and_then (differs x) (made (entry earlier x) earlier x.active ss) ≡ None))
      (append_assoc front (y ∷ []) ys) (whole_passes (front ++ y ∷ []) ys both.0 both.1)

  same_as : (e : Expression) (b : Bool) → same_expression e x.statement ≡ b → (if b then None else Some StatementDiffers) ≡ None
      → e ≡ x.statement
  same_as e true d h = (slice_eq-Decides bytes_eq-Decides e x.statement true (sym d)).0 refl
  same_as e false d h = absurd cc

  left_derives : (es : List Entry) (r : Entry) → only es ≡ Some r → last_failure es ≡ None → differs x r ≡ None → r ≡ Ok x.statement
  left_derives [] r o l d = absurd cc
  left_derives (y ∷ z ∷ es) r o l d = absurd cc
  left_derives (Err k ∷ []) r o l d = absurd cc
  left_derives (Ok e ∷ []) r o l d =
      let g : Ok e ≡ r = same_Some (Ok e) r o in
      sym g ∙ ap (λ e. Ok e) (same_as e (same_expression e x.statement) refl (ap (differs x) g ∙ d))

  ran_derives : (o : Option (Stack Entry)) (r : Entry) → single o ≡ Some r → option_and_then (λ s. last_failure s.entries) o ≡ None
      → option_and_then (differs x) (single o) ≡ None → single o ≡ Some (Ok x.statement)
  ran_derives None r h l d = absurd cc
  ran_derives (Some s) r h l d = h ∙ ap (λ r. Some r) (left_derives s.entries r h l (sym (ap (option_and_then (differs x)) h) ∙ d))

  pub derives : (steps : List Step) (r : Entry) → made (entry earlier x) earlier x.active steps ≡ Some r
      → fault_from earlier x [] steps ≡ None → made (entry earlier x) earlier x.active steps ≡ Some (Ok x.statement)
  derives steps r h f =
      let both = whole_passes [] steps refl f in
      ran_derives (run_steps (entry earlier x) earlier x.active (Some empty) steps) r h both.0 both.1
