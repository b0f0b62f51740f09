-- A forest that grows step by step: each step moves over its expressions, or fails; and what is left over is the outcome.
use Rattle.std.proofs.Common.{◌≡◌, ℕ, ◌+◌, ◌-◌, ◌≤◌, Bool, true, false, cond, List, [], ◌∷◌, ◌++◌, Option, None, Some, length, take, drop}
use Rattle.std.proofs.Common.{slice_get, Result, Ok, Err, refl, sym, ap, subst, ◌∙◌, append-nil, append_assoc, arith, take-append-drop}
use Rattle.std.proofs.Common.{Contains, zero, suc, ltb, length-append}
use Rattle.std.specs.List.{AllByRecursion}
use Rattle.std.specs.Bool.{Decides}
use Rattle.std.proofs.Math.Seq.{take-append_seam}
use Rattle.std.proofs.lemmas.List.{map-append, length-map, length-drop}
use Rattle.std.proofs.lemmas.List.Elements.{Contains-append_left}
use Rattle.std.proofs.lemmas.Bool.{ltb-true, ltb-false}
use Rattle.std.proofs.lemmas.Bool.Decides.{not_from_Decides}
use Rattle.mmsyntax.specs.declared.statement.Symbol.TheVariants.{Const, Var}
use Rattle.mmsyntax.specs.Tables.{Tables}
use Rattle.mmsyntax.specs.declared.statement.Frame.{Frame}
use Rattle.mmsyntax.specs.declared.statement.Float.{Float as FloatOf}
use Rattle.mmsyntax.specs.declared.statement.Assertion.{Assertion}
use Rattle.mmsyntax.specs.declared.statement.Step.{Step}
use Rattle.mmsyntax.specs.declared.statement.Step.TheVariants.{Float, Hyp, Cite}
use Rattle.mmsyntax.proofs.Distinct.{all_left, all_right, all_append}
use Rattle.derivation.specs.declared.fault.ProofFaultKind.{ProofFaultKind}
use Rattle.derivation.specs.declared.fault.ProofFaultKind.TheVariants.{UnknownStep, StackShort, NotOneLeft, StatementDiffers}
use Rattle.derivation.specs.declared.fault.ProofFault.{ProofFault}
use Rattle.derivation.specs.Derivation.{Expression, Citable, float, hyp, node, some, Derives, DeriveEach, listing, listings}
use Rattle.derivation.specs.Derivation.{arity}
use Rattle.derivation.specs.Faults.{last, Cites, FailsTest, StepFails}
use Rattle.derivation.specs.Moves.{Moves}
use Rattle.derivation.specs.Outcomes.{IsOutcome, same_expression, cited, Grown, trees_of, expressions_of, with_leaf, float_gives, with_node}
use Rattle.derivation.specs.Outcomes.{with_citation, grown, then_grow, all_grown, left_over, ended, outcome}
use Rattle.derivation.proofs.Forests.{Runs, Runs-more, join, listings-join}
use Rattle.derivation.proofs.Stuck.{step-fault, end-fault}
use Rattle.derivation.proofs.Decisions.{IsCited, cited-is, expressions-decide}
use Rattle.derivation.proofs.Plain.{at_seam}

-- ---- forests

trees_of-join : (gs hs : List Grown) → trees_of (gs ++ hs) ≡ join (trees_of gs) (trees_of hs)
trees_of-join [] hs = refl
trees_of-join (g ∷ gs) hs = ap (some g.tree) (trees_of-join gs hs)

listings_of : (gs hs : List Grown) → listings (trees_of (gs ++ hs)) ≡ listings (trees_of gs) ++ listings (trees_of hs)
listings_of gs hs = ap listings (trees_of-join gs hs) ∙ listings-join (trees_of gs) (trees_of hs)

expressions_of-append : (gs hs : List Grown) → expressions_of (gs ++ hs) ≡ expressions_of gs ++ expressions_of hs
expressions_of-append gs hs = map-append (λ (g : Grown). g.gives) gs hs

-- the lowest trees, and those above
expressions_parts : (n : ℕ) (gs : List Grown) → expressions_of gs ≡ expressions_of (take n gs) ++ expressions_of (drop n gs)
expressions_parts n gs = ap expressions_of (sym (take-append-drop n gs)) ∙ expressions_of-append (take n gs) (drop n gs)

listings_parts : (n : ℕ) (gs : List Grown) → listings (trees_of gs) ≡ listings (trees_of (take n gs)) ++ listings (trees_of (drop n gs))
listings_parts n gs = ap (λ hs. listings (trees_of hs)) (sym (take-append-drop n gs)) ∙ listings_of (take n gs) (drop n gs)

expressions_above : (n : ℕ) (gs : List Grown) → drop n (expressions_of gs) ≡ expressions_of (drop n gs)
expressions_above zero gs = refl
expressions_above (suc n) [] = refl
expressions_above (suc n) (g ∷ gs) = expressions_above n gs

module _ (lib : Citable) (p : Tables) (a : Assertion) where
  -- each tree derives its expression
  abbrev pub AllDerive : List Grown → Type 0
  AllDerive gs = AllByRecursion (λ g. Derives lib p a g.tree g.gives) gs

  derive-each : (gs : List Grown) → AllDerive gs → DeriveEach lib p a (trees_of gs) (expressions_of gs)
  derive-each [] h = refl
  derive-each (g ∷ gs) h = (g.gives, expressions_of gs, refl, h.0, derive-each gs h.1)

  all_take : (n : ℕ) (gs : List Grown) → AllDerive gs → AllDerive (take n gs)
  all_take n gs h =
      all_left (λ g. Derives lib p a g.tree g.gives) (take n gs) (drop n gs) (subst AllDerive (sym (take-append-drop n gs)) h)

  all_drop : (n : ℕ) (gs : List Grown) → AllDerive gs → AllDerive (drop n gs)
  all_drop n gs h =
      all_right (λ g. Derives lib p a g.tree g.gives) (take n gs) (drop n gs) (subst AllDerive (sym (take-append-drop n gs)) h)

  -- ---- one step

  -- the forest that a step leaves, or the first test that it fails
  IsGrown : List Grown → Step → Result (List Grown) ProofFaultKind → Type 0
  IsGrown gs step (Ok hs) =
      Moves lib p a (expressions_of gs) step (expressions_of hs) × AllDerive hs
      × (listings (trees_of hs) ≡ listings (trees_of gs) ++ step ∷ [])
  IsGrown gs step (Err kind) = StepFails lib p a (expressions_of gs) step kind

  one_more : (gs : List Grown) (g : Grown) → AllDerive gs → Derives lib p a g.tree g.gives → AllDerive (gs ++ g ∷ [])
  one_more gs g h d = all_append (λ x. Derives lib p a x.tree x.gives) gs (g ∷ []) h (d, tt)

  leaf-listed : (gs : List Grown) (g : Grown) (step : Step) → listing g.tree ≡ step ∷ []
      → listings (trees_of (gs ++ g ∷ [])) ≡ listings (trees_of gs) ++ step ∷ []
  leaf-listed gs g step e = listings_of gs (g ∷ []) ∙ ap (λ xs. listings (trees_of gs) ++ xs) (append-nil (listing g.tree) ∙ e)

  float-grown : (gs : List Grown) (i : ℕ) (o : Option FloatOf) → slice_get p.floats i ≡ o → AllDerive gs
      → IsGrown gs (Float i) (with_leaf gs (float i) (float_gives i o))
  unfolding IsGrown
  float-grown gs i None e h = e
  float-grown gs i (Some f) e h =
      let x : Expression = Const f.type_code ∷ Var i ∷ [] in
      let g : Grown = record { tree = float i; gives = x } in
      ((x, (f, e, refl), expressions_of-append gs (g ∷ [])), one_more gs g h (f, e, refl), leaf-listed gs g (Float i) refl)

  hyp-grown : (gs : List Grown) (k : ℕ) (o : Option Expression) → slice_get a.hyps k ≡ o → AllDerive gs
      → IsGrown gs (Hyp k) (with_leaf gs (hyp k) o)
  unfolding IsGrown
  hyp-grown gs k None e h = e
  hyp-grown gs k (Some x) e h =
      let g : Grown = record { tree = hyp k; gives = x } in
      ((x, e, expressions_of-append gs (g ∷ [])), one_more gs g h e, leaf-listed gs g (Hyp k) refl)

  test-fails : (es : List Expression) (step : Step) (f : Frame) (kind : ProofFaultKind) → Cites lib step f → arity f ≤ length es
      → FailsTest p a f (last (arity f) es) kind → StepFails lib p a es step kind
  test-fails es step f UnknownStep c le h = absurd h
  test-fails es step f StackShort c le h = absurd h
  test-fails es step f kind c le h = (f, c, le, h)

  node-grown : (gs : List Grown) (label : List ℕ) (f : Frame) (r : Result Expression ProofFaultKind) → lib label ≡ Some f
      → arity f ≤ length gs → AllDerive gs → IsCited p a f (last (arity f) (expressions_of gs)) r
      → IsGrown gs (Cite label) (with_node gs (length gs - arity f) label r)
  unfolding IsGrown
  node-grown gs label f (Err kind) e le h fails =
      test-fails (expressions_of gs) (Cite label) f kind e (omega (arith, length-map gs (λ (g : Grown). g.gives))) fails
  node-grown gs label f (Ok x) e le h gives =
      let n = length gs - arity f in
      let g : Grown = record { tree = node label (trees_of (drop n gs)); gives = x } in
      let above : last (arity f) (expressions_of gs) ≡ expressions_of (drop n gs) =
      ap (λ k. drop (k - arity f) (expressions_of gs)) (length-map gs (λ (g : Grown). g.gives)) ∙ expressions_above n gs in
      let given = subst (λ es. IsCited p a f es (Ok x)) above gives in
      let args = derive-each (drop n gs) (all_drop n gs h) in (
        (
          f,
          e,
          (
            expressions_of (take n gs),
            expressions_of (drop n gs),
            x,
            expressions_parts n gs,
            given,
            expressions_of-append (take n gs)
                (g ∷ []),
          ),
        ),
        one_more (take n gs) g (all_take n gs h) (f, expressions_of (drop n gs), e, args, given),
        listings_of (take n gs) (g ∷ [])
            ∙ ap (λ xs. listings (trees_of (take n gs)) ++ xs) (append-nil (listing g.tree))
            ∙ sym (append_assoc (listings (trees_of (take n gs))) (listings (trees_of (drop n gs))) (Cite label ∷ []))
            ∙ ap (λ xs. xs ++ Cite label ∷ []) (sym (listings_parts n gs)),
      )

  cite-grown : (gs : List Grown) (label : List ℕ) (o : Option Frame) → lib label ≡ o → AllDerive gs
      → IsGrown gs (Cite label) (with_citation p a gs label o)
  unfolding IsGrown
  cite-grown gs label None e h = e
  cite-grown gs label (Some f) e h = by_length (ltb (length gs) (arity f)) refl
    where
      by_length : (b : Bool) → ltb (length gs) (arity f) ≡ b
          → IsGrown gs (Cite label)
          (cond b (Err StackShort) (with_node gs (length gs - arity f) label (cited p a f (last (arity f) (expressions_of gs)))))
      by_length true y =
          (f, e, (let short = ltb-true (length gs) (arity f) y in omega (arith, length-map gs (λ (g : Grown). g.gives))))
      by_length false long =
          let le : arity f ≤ length gs = ltb-false (length gs) (arity f) long in
          let es = expressions_of gs in
          let count : length (last (arity f) es) ≡ arity f =
          omega (arith, length-drop (length es - arity f) es, length-map gs (λ (g : Grown). g.gives)) in
          node-grown gs label f _ e le h (cited-is p a f (last (arity f) es) count)

  step-grown : (gs : List Grown) (step : Step) → AllDerive gs → IsGrown gs step (grown lib p a gs step)
  step-grown gs (Float i) h = float-grown gs i _ refl h
  step-grown gs (Hyp k) h = hyp-grown gs k _ refl h
  step-grown gs (Cite label) h = cite-grown gs label _ refl h

  -- ---- the end

  abbrev end-at : ProofFaultKind → ProofFault
  end-at kind = record { step = length a.proof; kind = kind }

  one-left : (g : Grown) (b : Bool) → Decides b (g.gives ≡ a.statement) → Runs lib p a [] a.proof (g.gives ∷ [])
      → Derives lib p a g.tree g.gives → listing g.tree ≡ a.proof
      → IsOutcome lib p a (cond b (Ok g.tree) (Err (end-at StatementDiffers)))
  one-left g true d runs h l = (l, subst (λ e. Derives lib p a g.tree e) (d.0 refl) h)
  one-left g false d runs h l =
      end-fault lib p a (g.gives ∷ []) (end-at StatementDiffers) runs refl (g.gives, refl, not_from_Decides false d refl)

  end-is : (gs : List Grown) → Runs lib p a [] a.proof (expressions_of gs) → AllDerive gs → listings (trees_of gs) ≡ a.proof
      → IsOutcome lib p a (left_over a.statement (length a.proof) gs)
  end-is [] runs h l = end-fault lib p a [] (end-at NotOneLeft) runs refl (λ e. let bad : 0 ≡ 1 = e in absurd (omega arith))
  end-is (g ∷ []) runs h l =
      one-left g (same_expression g.gives a.statement) (expressions-decide g.gives a.statement) runs h.0
      (sym (append-nil (listing g.tree)) ∙ l)
  end-is (g ∷ k ∷ gs) runs h l =
      end-fault lib p a (expressions_of (g ∷ k ∷ gs)) (end-at NotOneLeft) runs refl
      (λ e. let bad : length (expressions_of (g ∷ k ∷ gs)) ≡ 1 = e in absurd (omega arith))

  -- ---- all steps

  steps-grown : (rest before : List Step) (n : ℕ) (gs : List Grown) → a.proof ≡ before ++ rest → n ≡ length before
      → Runs lib p a [] before (expressions_of gs) → AllDerive gs → listings (trees_of gs) ≡ before
      → IsOutcome lib p a (ended a.statement (length a.proof) (all_grown lib p a n gs rest))
  unfolding all_grown IsGrown
  steps-grown [] before n gs e at runs h l =
      let whole : before ≡ a.proof = sym (e ∙ append-nil before) in
      end-is gs (subst (λ xs. Runs lib p a [] xs (expressions_of gs)) whole runs) h (l ∙ whole)
  steps-grown (step ∷ rest) before n gs e at runs h l =
      next (grown lib p a gs step) (step-grown gs step h) (λ m hs. steps-grown rest (before ++ step ∷ []) m hs)
    where
      next : (r : Result (List Grown) ProofFaultKind) → IsGrown gs step r
          → ((m : ℕ) (hs : List Grown) → a.proof ≡ (before ++ step ∷ []) ++ rest → m ≡ length (before ++ step ∷ [])
          → Runs lib p a [] (before ++ step ∷ []) (expressions_of hs) → AllDerive hs → listings (trees_of hs) ≡ before ++ step ∷ []
          → IsOutcome lib p a (ended a.statement (length a.proof) (all_grown lib p a m hs rest)))
          → IsOutcome lib p a (ended a.statement (length a.proof) (then_grow n r (λ hs. all_grown lib p a (n + 1) hs rest)))
      next (Ok hs) is further =
          further (n + 1) hs (e ∙ sym (append_assoc before (step ∷ []) rest)) (omega (arith, length-append before (step ∷ [])))
          (Runs-more lib p a before (step ∷ []) [] (expressions_of gs) (expressions_of hs) runs (expressions_of hs, is.0, refl)) is.1
          (is.2 ∙ ap (λ xs. xs ++ step ∷ []) l)
      next (Err kind) is further =
          let front : before ≡ take (length before) a.proof =
          sym (take-append_seam before (step ∷ rest)) ∙ ap (take (length before)) (sym e) in
          let here : slice_get a.proof (length before) ≡ Some step = ap (λ xs. slice_get xs (length before)) e ∙ at_seam before step rest in
          step-fault lib p a (length before) (expressions_of gs) step (record { step = n + 1; kind = kind })
          (subst (λ xs. Runs lib p a [] xs (expressions_of gs)) front runs) here (ap (λ m. m + 1) at) is

  pub outcome-grown : IsOutcome lib p a (outcome lib p a)
  unfolding outcome
  outcome-grown = steps-grown a.proof [] 0 [] refl refl refl tt refl

-- ---- two citable sets

module _ (lib lib' : Citable) (p : Tables) (a : Assertion) where
  -- they agree on what a list of steps cites
  abbrev Agree : List Step → Type 0
  Agree steps = (label : List ℕ) → Contains steps (Cite label) → lib label ≡ lib' label

  step-alike : (gs : List Grown) (step : Step) → Agree (step ∷ []) → grown lib p a gs step ≡ grown lib' p a gs step
  step-alike gs (Float i) h = refl
  step-alike gs (Hyp k) h = refl
  step-alike gs (Cite label) h = ap (with_citation p a gs label) (h label (0, omega arith, refl))

  later-agree : (step : Step) (steps : List Step) → Agree (step ∷ steps) → Agree steps
  later-agree step steps h = λ label there. h label (suc there.0, omega (arith, there.1), there.2)

  grown-alike : (steps : List Step) (n : ℕ) (gs : List Grown) → Agree steps
      → all_grown lib p a n gs steps ≡ all_grown lib' p a n gs steps
  unfolding all_grown
  grown-alike [] n gs h = refl
  grown-alike (step ∷ steps) n gs h =
      ap (λ r. then_grow n r (λ hs. all_grown lib p a (n + 1) hs steps))
      (step-alike gs step (λ label there. h label (Contains-append_left (step ∷ []) steps (Cite label) there)))
      ∙ on (grown lib' p a gs step) (λ hs. grown-alike steps (n + 1) hs (later-agree step steps h))
    where
      on : (r : Result (List Grown) ProofFaultKind)
          → ((hs : List Grown) → all_grown lib p a (n + 1) hs steps ≡ all_grown lib' p a (n + 1) hs steps)
          → then_grow n r (λ hs. all_grown lib p a (n + 1) hs steps) ≡ then_grow n r (λ hs. all_grown lib' p a (n + 1) hs steps)
      on (Ok hs) k = k hs
      on (Err kind) k = refl

  pub outcome-alike : Agree a.proof → outcome lib p a ≡ outcome lib' p a
  unfolding outcome
  outcome-alike h = ap (ended a.statement (length a.proof)) (grown-alike a.proof 0 [] h)
