-- From the source to the library: where a tree derives an expression, its listing puts it, or is stuck at too long an expression.
use Rattle.std.proofs.Common.{◌≡◌, ◌≤◌, ◌<◌, ◌⊎◌, inl, inr, ℕ, false, List, [], ◌∷◌, ◌++◌, length, refl, sym, ap, ◌∙◌, subst}
use Rattle.std.proofs.Common.{arith, length-append, append_assoc, append-nil, Ok}
use mathlib.Core.Path.{ap₂}
use Rattle.std.specs.Prelude.{Option, Some, None}
use Rattle.std.specs.Option.{option_map}
use Rattle.std.specs.List.{list_any}
use Rattle.std.proofs.lemmas.Bool.{or_parts}
use Rattle.std.proofs.lemmas.Option.{same_Some}
use Rattle.std.proofs.lemmas.List.Folds.{list_any-append}
use Rattle.mmtext.specs.Words.{Word}
use Rattle.mmsyntax.specs.declared.statement.Symbol.{Symbol}
use Rattle.mmsyntax.specs.declared.statement.Step.{Step}
use Rattle.mmsyntax.specs.declared.statement.Step.TheVariants.{Cite}
use Rattle.mmsyntax.specs.declared.statement.Assertion.{Assertion as Unit'}
use Rattle.mmsyntax.specs.declared.limits.TheConstants.{MOST_SYMBOLS}
use Rattle.mmframes.specs.Frames.{frame}
use Rattle.derivation.specs.declared.fault.ProofFaultKind.TheVariants.{TooLong}
use Rattle.derivation.specs.Derivation.{Gives, arity}
use Rattle.derivation.specs.Faults.{FailsTest, StepFails}
use Rattle.source.specs.Scopes.{Hypothesis, typing, premise, Assertion}
use Rattle.source.specs.Proofs.{Tree, Trees, node, none, some, taken_by}
use Rattle.taking.specs.Says.{both, each, expression_in}
use Rattle.taking.specs.Lengths.{how_many, TakesEnough, TakeEnough}
use Rattle.taking.specs.Listings.{at_floats, at_premises, in_profile_order, joined, step_in, listing, listings}
use Rattle.taking.specs.Reasons.{labels_cited, labels_cited_by_each}
use Rattle.verifying.specs.Citations.{Expression, said_by}
use Rattle.verifying.specs.Verifies.{all_of, named}
use Rattle.verifying.specs.Laws.{value, values}
use Rattle.agreement.specs.Short.{IsShortAt, AreShort, AllAreShort}
use Rattle.agreement.proofs.Within.{both_parts}
use Rattle.agreement.proofs.Citing.{one_for_each, passes_there, gives_there, too_long_there, each_length}
use Rattle.agreement.proofs.Joined.{before_parts, made_parts, last_items, which, not_both, flat}
use Rattle.agreement.proofs.Trees.{Beside, Values, AreIn, Goes, leaf, over, of_hypothesis, of_assertion, all_many, active_named, earlier_named, is_out}

module _ (q : Beside) where
  -- ---- from the source to the library

  abbrev pub Pushes : List Step → List Symbol → Type 0
  Pushes steps z = (st : Values) (rest : List Step) (st' : Values) → Goes q (st ++ z ∷ []) rest st' → Goes q st (steps ++ rest) st'

  -- a citation among the steps makes too long an expression
  pub record IsStuck (steps : List Step) : Type 0 where
    pub front : List Step
    pub label : List ℕ
    pub behind : List Step
    pub more : Values
    pub are : steps ≡ front ++ Cite label ∷ behind
    pub runs : (st : Values) → Goes q st front (st ++ more)
    pub fails : (st : Values) → StepFails q.lib q.t q.a (st ++ more) (Cite label) TooLong

  -- steps put an expression, or are stuck, and then No holds
  abbrev pub Reaches : Type 0 → List Step → List Symbol → Type 0
  Reaches No steps z = Pushes steps z ⊎ (IsStuck steps × No)

  abbrev AllReach : Type 0 → List (List Step) → Values → Type 0
  AllReach No [] [] = Unit {0}
  AllReach No [] (z ∷ zs) = ⊥
  AllReach No (p ∷ ps) [] = ⊥
  AllReach No (p ∷ ps) (z ∷ zs) = Reaches No p z × AllReach No ps zs

  reach_weaker : (No Neither : Type 0) → (No → Neither) → (ps : List (List Step)) (zs : Values) → AllReach No ps zs
      → AllReach Neither ps zs
  reach_weaker No Neither f [] [] h = tt
  reach_weaker No Neither f [] (z ∷ zs) h = absurd h
  reach_weaker No Neither f (p ∷ ps) [] h = absurd h
  reach_weaker No Neither f (p ∷ ps) (z ∷ zs) h =
      (elim h.0 [ inl push ↦ inl push | inr s ↦ inr (s.0, f s.1) ], reach_weaker No Neither f ps zs h.1)

  reach_floats : (No : Type 0) (hs : List Hypothesis) (ps : List (List Step)) (zs : Values) → AllReach No ps zs
      → AllReach No (at_floats hs ps) (at_floats hs zs)
  reach_floats No hs [] (z ∷ zs) h = absurd h
  reach_floats No hs (p ∷ ps) [] h = absurd h
  reach_floats No [] [] [] h = tt
  reach_floats No [] (p ∷ ps) (z ∷ zs) h = tt
  reach_floats No (typing label c v ∷ hs) [] [] h = tt
  reach_floats No (premise label ws ∷ hs) [] [] h = tt
  reach_floats No (typing label c v ∷ hs) (p ∷ ps) (z ∷ zs) h = (h.0, reach_floats No hs ps zs h.1)
  reach_floats No (premise label ws ∷ hs) (p ∷ ps) (z ∷ zs) h = reach_floats No hs ps zs h.1

  reach_premises : (No : Type 0) (hs : List Hypothesis) (ps : List (List Step)) (zs : Values) → AllReach No ps zs
      → AllReach No (at_premises hs ps) (at_premises hs zs)
  reach_premises No hs [] (z ∷ zs) h = absurd h
  reach_premises No hs (p ∷ ps) [] h = absurd h
  reach_premises No [] [] [] h = tt
  reach_premises No [] (p ∷ ps) (z ∷ zs) h = tt
  reach_premises No (typing label c v ∷ hs) [] [] h = tt
  reach_premises No (premise label ws ∷ hs) [] [] h = tt
  reach_premises No (typing label c v ∷ hs) (p ∷ ps) (z ∷ zs) h = reach_premises No hs ps zs h.1
  reach_premises No (premise label ws ∷ hs) (p ∷ ps) (z ∷ zs) h = (h.0, reach_premises No hs ps zs h.1)

  reach_both : (No : Type 0) (ps qs : List (List Step)) (zs ys : Values) → AllReach No ps zs → AllReach No qs ys
      → AllReach No (ps ++ qs) (zs ++ ys)
  reach_both No [] qs [] ys h k = k
  reach_both No [] qs (z ∷ zs) ys h k = absurd h
  reach_both No (p ∷ ps) qs [] ys h k = absurd h
  reach_both No (p ∷ ps) qs (z ∷ zs) ys h k = (h.0, reach_both No ps qs zs ys h.1 k)

  -- all put their expressions, or the first that is stuck stops all
  abbrev PushesAll : List Step → Values → Type 0
  PushesAll steps zs = (st : Values) (rest : List Step) (st' : Values) → Goes q (st ++ zs) rest st' → Goes q st (steps ++ rest) st'

  stuck_before : (p later : List Step) → IsStuck p → IsStuck (p ++ later)
  stuck_before p later s = record {
    front = s.front;
    label = s.label;
    behind = s.behind ++ later;
    more = s.more;
    are = ap (λ ss. ss ++ later) s.are ∙ append_assoc s.front (Cite s.label ∷ s.behind) later;
    runs = s.runs;
    fails = s.fails;
  }

  stuck_behind : (p later : List Step) (z : List Symbol) → Pushes p z → IsStuck later → IsStuck (p ++ later)
  stuck_behind p later z push s = record {
    front = p ++ s.front;
    label = s.label;
    behind = s.behind;
    more = z ∷ s.more;
    are = ap (λ ss. p ++ ss) s.are ∙ sym (append_assoc p s.front (Cite s.label ∷ s.behind));
    runs = λ st.
        push st s.front (st ++ z ∷ s.more)
        (subst (Goes q (st ++ z ∷ []) s.front) (append_assoc st (z ∷ []) s.more) (s.runs (st ++ z ∷ [])));
    fails = λ st. subst (λ l. StepFails q.lib q.t q.a l (Cite s.label) TooLong) (append_assoc st (z ∷ []) s.more) (s.fails (st ++ z ∷ []));
  }

  first_stuck : (No : Type 0) (ps : List (List Step)) (zs : Values) → AllReach No ps zs
      → PushesAll (flat ps) zs ⊎ (IsStuck (flat ps) × No)
  first_stuck No [] [] h = inl (λ st rest st' k. subst (λ s. Goes q s rest st') (append-nil st) k)
  first_stuck No [] (z ∷ zs) h = absurd h
  first_stuck No (p ∷ ps) [] h = absurd h
  first_stuck No (p ∷ ps) (z ∷ zs) h = elim h.0 [
    | inr s ↦ inr (stuck_before p (flat ps) s.0, s.1)
    | inl push ↦ elim (first_stuck No ps zs h.1) [
      | inr s ↦ inr (stuck_behind p (flat ps) z push s.0, s.1)
      | inl later ↦ inl (λ st rest st' k.
          subst (λ ss. Goes q st ss st') (sym (append_assoc p (flat ps) rest))
          (push st (flat ps ++ rest) st'
          (later (st ++ z ∷ []) rest st' (subst (λ s. Goes q s rest st') (sym (append_assoc st (z ∷ []) zs)) k))))
    ]
  ]

  -- steps reach what an expression is in the library
  pub record Reached (No : Type 0) (steps : List Step) (e : Expression) : Type 0 where
    pub gives : List Symbol
    pub is : expression_in q.m q.x.active e ≡ Some gives
    pub reaches : Reaches No steps gives

  record AllReached (No : Type 0) (parts : List (List Step)) (es : List Expression) : Type 0 where
    gives : Values
    are : AreIn q es gives
    reach : AllReach No parts gives

  abbrev AreLong : Trees → Type 0
  AreLong trees = AllAreShort q.earlier q.x trees → ⊥

  AfterTrees : Trees → Type 0
  AfterTrees trees =
      (parts : List (List Step)) → listings q.m q.earlier q.x.active trees ≡ Some parts → (es : List Expression)
      → all_of (values q.earlier q.x trees) ≡ Ok es → AllReached (AreLong trees) parts es

  -- the last step of a citation, behind what it takes
  last_step : (w : Word) (trees : Trees) (c : Assertion) (e : Expression) (front : List Step) (ordered : Values) (b : Unit')
      (z : List Symbol) → q.lib b.label ≡ Some (frame q.t b) → length ordered ≡ arity (frame q.t b) → PushesAll front ordered
      → (length e ≤ MOST_SYMBOLS → Gives q.t q.a (frame q.t b) ordered z)
      → (MOST_SYMBOLS < length e → FailsTest q.t q.a (frame q.t b) ordered TooLong)
      → active_named q w ≡ None → value q.earlier q.x (node w trees) ≡ Ok e
      → Reaches (AreShort q.earlier q.x (node w trees) → ⊥) (front ++ Cite b.label ∷ []) z
  last_step w trees c e front ordered b z there many pushed gives long active derives =
      elim (which (length e) MOST_SYMBOLS) [
        | inl few ↦ inl (λ st rest st' k.
            subst (λ ss. Goes q st ss st') (sym (append_assoc front (Cite b.label ∷ []) rest))
            (pushed st (Cite b.label ∷ rest) st'
            (st ++ z ∷ [], (frame q.t b, there, (st, ordered, z, refl, gives few, refl)), k)))
        | inr many-symbols ↦ inr (
          record {
            front = front;
            label = b.label;
            behind = [];
            more = ordered;
            are = refl;
            runs = λ st.
                subst (λ ss. Goes q st ss (st ++ ordered)) (append-nil front) (pushed st [] (st ++ ordered) refl);
            fails = λ st. (
              frame q.t b,
              there,
              omega (arith, length-append st ordered, many),
              subst (λ l. FailsTest q.t q.a (frame q.t b) l TooLong) (sym (last_items st ordered (arity (frame q.t b)) many))
                  (long many-symbols),
            );
          },
          λ short.
              not_both (length e) MOST_SYMBOLS
              (subst (IsShortAt None) derives (subst (λ o. IsShortAt o (value q.earlier q.x (node w trees))) active short.0))
              many-symbols,
        )
      ]

  forward_at : (w : Word) (trees : Trees) (steps : List Step) (o : Option Hypothesis) (r : Option Assertion) → active_named q w ≡ o
      → earlier_named q w ≡ r → option_map length (taken_by q.earlier q.x.active w) ≡ Some (how_many trees) → is_out q w ≡ false
      → joined (taken_by q.earlier q.x.active w) (listings q.m q.earlier q.x.active trees) (step_in q.m q.x.active w) ≡ Some steps
      → AfterTrees trees → (e : Expression) → value q.earlier q.x (node w trees) ≡ Ok e
      → Reached (AreShort q.earlier q.x (node w trees) → ⊥) steps e
  unfolding AfterTrees
  forward_at w trees steps (Some h) r active found enough kept lists after e derives =
      let put = q.puts w h active in
      let l = leaf q w trees steps h active enough lists in
      let same : said_by h ≡ e = let both : Ok (said_by h) ≡ Ok e = sym (of_hypothesis q w trees h active) ∙ derives in cc in
      record {
        gives = put.gives;
        is = ap (expression_in q.m q.x.active) (sym same) ∙ put.is;
        reaches = inl (λ st rest st' k.
            subst (λ ss. Goes q st (ss ++ rest) st') (sym l.steps_are) (st ++ put.gives ∷ [], put.moves st, k));
      }
  forward_at w trees steps None None active found enough kept lists after e derives =
      absurd
      (let both =
      sym (ap (λ o. named q.x (values q.earlier q.x trees) o (earlier_named q w)) active
      ∙ ap (λ o. named q.x (values q.earlier q.x trees) None o) found) ∙ derives in
      cc)
  forward_at w trees steps None (Some c) active found enough kept lists after e derives =
      let is = q.cites w c active found kept in
      let b = is.theorem in
      let l = over q w c trees steps active found b.label is.step enough lists in
      let made = made_parts q.x c (all_of (values q.earlier q.x trees)) e (sym (of_assertion q w trees c active found) ∙ derives) in
      let args = after l.parts l.parts_are made.0 made.1 in
      let long = l.many ∙ all_many q trees made.0 made.1 in
      let p = passes_there q.m q.t q.x c q.a b q.sx is.said made.0 args.gives long args.are e made.2 in
      let hs = c.hypotheses in
      let fs = at_floats hs l.parts in
      let ps = at_premises hs l.parts in
      let ordered = in_profile_order hs args.gives in
      let reach = reach_both (AreLong trees) fs ps (at_floats hs args.gives) (at_premises hs args.gives)
      (reach_floats (AreLong trees) hs l.parts args.gives args.reach) (reach_premises (AreLong trees) hs l.parts args.gives args.reach) in
      let many = one_for_each q.m q.t q.x c q.a b q.sx is.said args.gives
      (long ∙ each_length (expression_in q.m q.x.active) made.0 args.gives args.are) in
      let No : Type 0 = AreShort q.earlier q.x (node w trees) → ⊥ in
      record {
        gives = p.gives;
        is = p.is;
        reaches =
            subst (λ ss. Reaches No ss p.gives) (sym l.steps_are)
            (elim (first_stuck (AreLong trees) (fs ++ ps) ordered reach) [
              | inr s ↦ inr (stuck_before (flat (fs ++ ps)) (Cite b.label ∷ []) s.0, λ short. s.1 short.1)
              | inl pushed ↦
                  last_step w trees c e (flat (fs ++ ps)) ordered b p.gives is.there many pushed
                  (gives_there q.m q.t q.x c q.a b q.sx is.said made.0 args.gives long args.are e p)
                  (too_long_there q.m q.t q.x c q.a b q.sx is.said made.0 args.gives long args.are e p) active derives
            ]);
      }

  mutual
    unfolding AfterTrees

    pub forward : (tr : Tree) (steps : List Step) → TakesEnough q.earlier q.x.active tr → list_any (is_out q) (labels_cited tr) ≡ false
        → listing q.m q.earlier q.x.active tr ≡ Some steps → (e : Expression) → value q.earlier q.x tr ≡ Ok e
        → Reached (AreShort q.earlier q.x tr → ⊥) steps e
    forward (node w trees) steps enough kept lists e derives =
        let parts = or_parts (is_out q w) (list_any (is_out q) (labels_cited_by_each trees)) kept in
        forward_at w trees steps (active_named q w) (earlier_named q w) refl refl enough.0 parts.0 lists
        (λ ps are es h. forwards trees ps enough.1 parts.1 are es h) e derives

    forwards : (ts : Trees) (parts : List (List Step)) → TakeEnough q.earlier q.x.active ts
        → list_any (is_out q) (labels_cited_by_each ts) ≡ false → listings q.m q.earlier q.x.active ts ≡ Some parts → (es : List Expression)
        → all_of (values q.earlier q.x ts) ≡ Ok es → AllReached (AreLong ts) parts es
    forwards none parts enough kept lists es derive =
        let same : [] ≡ es = cc in
        record {
          gives = [];
          are = ap (each (expression_in q.m q.x.active)) (sym same);
          reach = subst (λ ps. AllReach (AreLong none) ps []) (same_Some [] parts lists) tt;
        }
    forwards (some tr ts) parts enough kept lists es derive =
        let ls = both_parts (listing q.m q.earlier q.x.active tr) (listings q.m q.earlier q.x.active ts) parts lists in
        let out = or_parts (list_any (is_out q) (labels_cited tr)) (list_any (is_out q) (labels_cited_by_each ts))
        (sym (list_any-append (is_out q) (labels_cited tr) (labels_cited_by_each ts)) ∙ kept) in
        let b = before_parts (value q.earlier q.x tr) (all_of (values q.earlier q.x ts)) es derive in
        let first = forward tr ls.0 enough.0 out.0 ls.2 b.first b.first_is in
        let others = forwards ts ls.1 enough.1 out.1 ls.3 b.others b.others_are in
        let No : Type 0 = AreLong (some tr ts) in
        let here : Reaches No ls.0 first.gives = elim first.reaches [
          | inl push ↦ inl push
          | inr s ↦ inr (s.0, λ short. s.1 short.0)
        ] in
        record {
          gives = first.gives ∷ others.gives;
          are = ap (each (expression_in q.m q.x.active)) b.all_are ∙ ap₂ both first.is others.are;
          reach =
              subst (λ ps. AllReach No ps (first.gives ∷ others.gives)) (sym ls.4)
              (here, reach_weaker (AreLong ts) No (λ n short. n short.1) ls.1 others.gives others.reach);
        }
