-- From the library to the source: where the listing of a tree runs, the tree derives an expression, by short ones.
use Rattle.std.proofs.Common.{◌≡◌, ◌≤◌, false, List, [], ◌∷◌, ◌++◌, length, refl, sym, ap, ◌∙◌, subst}
use Rattle.std.proofs.Common.{arith, append_assoc, append-nil, Ok}
use mathlib.Core.Path.{ap₂}
use Rattle.std.specs.Prelude.{Option, Some, None}
use Rattle.std.specs.Option.{option_map}
use Rattle.std.specs.List.{list_any}
use Rattle.std.proofs.lemmas.Bool.{or_parts}
use Rattle.std.proofs.lemmas.Option.{same_Some}
use Rattle.std.proofs.lemmas.List.Folds.{list_any-append}
use Rattle.mmtext.specs.Words.{Word}
use Rattle.mmsyntax.specs.declared.statement.Symbol.{Symbol}
use Rattle.mmsyntax.specs.declared.statement.Step.{Step}
use Rattle.mmsyntax.specs.declared.statement.Step.TheVariants.{Cite}
use Rattle.mmsyntax.specs.declared.limits.TheConstants.{MOST_SYMBOLS}
use Rattle.mmframes.specs.Frames.{frame}
use Rattle.derivation.specs.Derivation.{Gives}
use Rattle.derivation.proofs.Forests.{Runs-same}
use Rattle.source.specs.Scopes.{Hypothesis, typing, premise, Assertion}
use Rattle.source.specs.Proofs.{Tree, Trees, node, none, some, taken_by}
use Rattle.taking.specs.Says.{both, expression_in}
use Rattle.taking.specs.Lengths.{how_many, TakesEnough, TakeEnough}
use Rattle.taking.specs.Listings.{at_floats, at_premises, in_profile_order, joined, step_in, listing, listings}
use Rattle.taking.specs.Reasons.{labels_cited, labels_cited_by_each}
use Rattle.verifying.specs.Citations.{Expression, said_by}
use Rattle.verifying.specs.Verifies.{before, all_of}
use Rattle.verifying.specs.Laws.{value, values}
use Rattle.agreement.specs.Short.{IsShortAt, AreShort, AllAreShort}
use Rattle.agreement.proofs.Within.{both_parts}
use Rattle.agreement.proofs.Citing.{one_for_each, gives_here, each_length}
use Rattle.agreement.proofs.Joined.{joined_parts, ends_agree, same_stack, as_many, flat, split_steps}
use Rattle.agreement.proofs.Trees.{Beside, Values, AreIn, Goes, takes_earlier, leaf, over, of_hypothesis, of_arguments, all_many, active_named, earlier_named, is_out}

module _ (q : Beside) where
  -- ---- from the library to the source

  pub record IsGood (tr : Tree) (z : List Symbol) : Type 0 where
    pub gives : Expression
    pub derives : value q.earlier q.x tr ≡ Ok gives
    pub is : expression_in q.m q.x.active gives ≡ Some z
    pub short : AreShort q.earlier q.x tr

  -- steps that run put what the tree derives
  pub record IsAnswered (tr : Tree) (st : Values) (rest : List Step) (st' : Values) : Type 0 where
    pub gives : List Symbol
    pub good : IsGood tr gives
    pub runs : Goes q (st ++ gives ∷ []) rest st'

  abbrev pub Answers : Tree → List Step → Type 0
  Answers tr steps = (st : Values) (rest : List Step) (st' : Values) → Goes q st (steps ++ rest) st' → IsAnswered tr st rest st'

  abbrev AllAnswer : Trees → List (List Step) → Type 0
  AllAnswer none [] = Unit {0}
  AllAnswer none (p ∷ ps) = ⊥
  AllAnswer (some tr ts) [] = ⊥
  AllAnswer (some tr ts) (p ∷ ps) = Answers tr p × AllAnswer ts ps

  -- what trees at the $f, or at the $e, derive, and what all derive
  abbrev FloatsGood : List Hypothesis → Trees → Values → Type 0
  FloatsGood hs none zs = zs ≡ []
  FloatsGood [] (some tr ts) zs = zs ≡ []
  FloatsGood (premise label ws ∷ hs) (some tr ts) zs = FloatsGood hs ts zs
  FloatsGood (typing label c v ∷ hs) (some tr ts) zs =
      (z : List Symbol) × (later : Values) × (zs ≡ z ∷ later) × IsGood tr z × FloatsGood hs ts later

  abbrev PremisesGood : List Hypothesis → Trees → Values → Type 0
  PremisesGood hs none zs = zs ≡ []
  PremisesGood [] (some tr ts) zs = zs ≡ []
  PremisesGood (typing label c v ∷ hs) (some tr ts) zs = PremisesGood hs ts zs
  PremisesGood (premise label ws ∷ hs) (some tr ts) zs =
      (z : List Symbol) × (later : Values) × (zs ≡ z ∷ later) × IsGood tr z × PremisesGood hs ts later

  abbrev AllGood : Trees → Values → Type 0
  AllGood none zs = zs ≡ []
  AllGood (some tr ts) zs = (z : List Symbol) × (later : Values) × (zs ≡ z ∷ later) × IsGood tr z × AllGood ts later

  record HaveRun (Good : Values → Type 0) (st : Values) (rest : List Step) (st' : Values) : Type 0 where
    gives : Values
    good : Good gives
    runs : Goes q (st ++ gives) rest st'

  nothing_run : (Good : Values → Type 0) (st : Values) (rest : List Step) (st' : Values) → Good [] → Goes q st rest st'
      → HaveRun Good st rest st'
  nothing_run Good st rest st' g k = record {
    gives = [];
    good = g;
    runs = subst (λ s. Goes q s rest st') (sym (append-nil st)) k;
  }

  one_run : (tr : Tree) (p : List Step) (ps : List (List Step)) (Good Later : Values → Type 0) (st : Values) (rest : List Step)
      (st' : Values) → Answers tr p → ((z : List Symbol) (later : Values) → IsGood tr z → Later later → Good (z ∷ later))
      → ((s : Values) → Goes q s (flat ps ++ rest) st' → HaveRun Later s rest st') → Goes q st (flat (p ∷ ps) ++ rest) st'
      → HaveRun Good st rest st'
  one_run tr p ps Good Later st rest st' answers joins later k =
      let first = answers st (flat ps ++ rest) st' (subst (λ ss. Goes q st ss st') (append_assoc p (flat ps) rest) k) in
      let others = later (st ++ first.gives ∷ []) first.runs in
      record {
        gives = first.gives ∷ others.gives;
        good = joins first.gives others.gives first.good others.good;
        runs = subst (λ s. Goes q s rest st') (append_assoc st (first.gives ∷ []) others.gives) others.runs;
      }

  run_floats : (hs : List Hypothesis) (ts : Trees) (ps : List (List Step)) → AllAnswer ts ps
      → (st : Values) (rest : List Step) (st' : Values) → Goes q st (flat (at_floats hs ps) ++ rest) st'
      → HaveRun (FloatsGood hs ts) st rest st'
  run_floats hs none (p ∷ ps) h st rest st' k = absurd h
  run_floats hs (some tr ts) [] h st rest st' k = absurd h
  run_floats [] none [] h st rest st' k = nothing_run (FloatsGood [] none) st rest st' refl k
  run_floats (typing label c v ∷ hs) none [] h st rest st' k =
      nothing_run (FloatsGood (typing label c v ∷ hs) none) st rest st' refl k
  run_floats (premise label ws ∷ hs) none [] h st rest st' k =
      nothing_run (FloatsGood (premise label ws ∷ hs) none) st rest st' refl k
  run_floats [] (some tr ts) (p ∷ ps) h st rest st' k = nothing_run (FloatsGood [] (some tr ts)) st rest st' refl k
  run_floats (premise label ws ∷ hs) (some tr ts) (p ∷ ps) h st rest st' k =
      let later = run_floats hs ts ps h.1 st rest st' k in
      record { gives = later.gives; good = later.good; runs = later.runs }
  run_floats (typing label c v ∷ hs) (some tr ts) (p ∷ ps) h st rest st' k =
      one_run tr p (at_floats hs ps) (FloatsGood (typing label c v ∷ hs) (some tr ts)) (FloatsGood hs ts) st rest st' h.0
      (λ z later g l. (z, later, refl, g, l)) (λ s r. run_floats hs ts ps h.1 s rest st' r) k

  run_premises : (hs : List Hypothesis) (ts : Trees) (ps : List (List Step)) → AllAnswer ts ps
      → (st : Values) (rest : List Step) (st' : Values) → Goes q st (flat (at_premises hs ps) ++ rest) st'
      → HaveRun (PremisesGood hs ts) st rest st'
  run_premises hs none (p ∷ ps) h st rest st' k = absurd h
  run_premises hs (some tr ts) [] h st rest st' k = absurd h
  run_premises [] none [] h st rest st' k = nothing_run (PremisesGood [] none) st rest st' refl k
  run_premises (typing label c v ∷ hs) none [] h st rest st' k =
      nothing_run (PremisesGood (typing label c v ∷ hs) none) st rest st' refl k
  run_premises (premise label ws ∷ hs) none [] h st rest st' k =
      nothing_run (PremisesGood (premise label ws ∷ hs) none) st rest st' refl k
  run_premises [] (some tr ts) (p ∷ ps) h st rest st' k = nothing_run (PremisesGood [] (some tr ts)) st rest st' refl k
  run_premises (typing label c v ∷ hs) (some tr ts) (p ∷ ps) h st rest st' k =
      let later = run_premises hs ts ps h.1 st rest st' k in
      record { gives = later.gives; good = later.good; runs = later.runs }
  run_premises (premise label ws ∷ hs) (some tr ts) (p ∷ ps) h st rest st' k =
      one_run tr p (at_premises hs ps) (PremisesGood (premise label ws ∷ hs) (some tr ts)) (PremisesGood hs ts) st rest st' h.0
      (λ z later g l. (z, later, refl, g, l)) (λ s r. run_premises hs ts ps h.1 s rest st' r) k

  -- what the trees derive in the order of the source
  record Merged (hs : List Hypothesis) (ts : Trees) (xs ys : Values) : Type 0 where
    gives : Values
    good : AllGood ts gives
    floats : at_floats hs gives ≡ xs
    premises : at_premises hs gives ≡ ys

  merged : (hs : List Hypothesis) (ts : Trees) (xs ys : Values) → length hs ≡ how_many ts → FloatsGood hs ts xs → PremisesGood hs ts ys
      → Merged hs ts xs ys
  merged [] none xs ys n f p = record { gives = []; good = refl; floats = sym f; premises = sym p }
  merged [] (some tr ts) xs ys n f p = absurd (omega arith)
  merged (h ∷ hs) none xs ys n f p = absurd (omega arith)
  merged (typing label c v ∷ hs) (some tr ts) xs ys n f p =
      let later = merged hs ts f.1 ys (omega arith) f.4 p in
      record {
        gives = f.0 ∷ later.gives;
        good = (f.0, later.gives, refl, f.3, later.good);
        floats = ap (λ l. f.0 ∷ l) later.floats ∙ sym f.2;
        premises = later.premises;
      }
  merged (premise label ws ∷ hs) (some tr ts) xs ys n f p =
      let later = merged hs ts xs p.1 (omega arith) f p.4 in
      record {
        gives = p.0 ∷ later.gives;
        good = (p.0, later.gives, refl, p.3, later.good);
        floats = later.floats;
        premises = ap (λ l. p.0 ∷ l) later.premises ∙ sym p.2;
      }

  record AreGood (ts : Trees) (zs : Values) : Type 0 where
    gives : List Expression
    derive : all_of (values q.earlier q.x ts) ≡ Ok gives
    are : AreIn q gives zs
    short : AllAreShort q.earlier q.x ts

  all_good : (ts : Trees) (zs : Values) → AllGood ts zs → AreGood ts zs
  all_good none zs h = record { gives = []; derive = refl; are = ap (λ l. Some l) (sym h); short = tt }
  all_good (some tr ts) zs h =
      let later = all_good ts h.1 h.4 in
      record {
        gives = h.3.gives ∷ later.gives;
        derive = ap₂ before h.3.derives later.derive;
        are = ap₂ both h.3.is later.are ∙ ap (λ l. Some l) (sym h.2);
        short = (h.3.short, later.short);
      }

  AnswersOfTrees : Trees → Type 0
  AnswersOfTrees trees = (parts : List (List Step)) → listings q.m q.earlier q.x.active trees ≡ Some parts → AllAnswer trees parts

  -- a label of an assertion over trees that answer
  record IsCitedWell (w : Word) (trees : Trees) (st : Values) (rest : List Step) (st' : Values) : Type 0 where
    gives : List Symbol
    expression : Expression
    derives : value q.earlier q.x (node w trees) ≡ Ok expression
    is : expression_in q.m q.x.active expression ≡ Some gives
    few : length expression ≤ MOST_SYMBOLS
    short : AllAreShort q.earlier q.x trees
    runs : Goes q (st ++ gives ∷ []) rest st'

  cited_well : (w : Word) (c : Assertion) (trees : Trees) (steps : List Step) (active : active_named q w ≡ None)
      (found : earlier_named q w ≡ Some c) (kept : is_out q w ≡ false)
      → option_map length (taken_by q.earlier q.x.active w) ≡ Some (how_many trees)
      → joined (taken_by q.earlier q.x.active w) (listings q.m q.earlier q.x.active trees) (step_in q.m q.x.active w) ≡ Some steps
      → AnswersOfTrees trees → (st : Values) (rest : List Step) (st' : Values) → Goes q st (steps ++ rest) st'
      → IsCitedWell w trees st rest st'
  unfolding AnswersOfTrees
  cited_well w c trees steps active found kept enough lists answers st rest st' k =
      let is = q.cites w c active found kept in
      let b = is.theorem in
      let l = over q w c trees steps active found b.label is.step enough lists in
      let hs = c.hypotheses in
      let all = answers l.parts l.parts_are in
      let fs = at_floats hs l.parts in
      let ps = at_premises hs l.parts in
      let split = split_steps fs ps (Cite b.label) steps rest l.steps_are in
      let first = run_floats hs trees l.parts all st (flat ps ++ Cite b.label ∷ rest) st' (subst (λ ss. Goes q st ss st') split k) in
      let second = run_premises hs trees l.parts all (st ++ first.gives) (Cite b.label ∷ rest) st' first.runs in
      let args = merged hs trees first.gives second.gives l.many first.good second.good in
      let good = all_good trees args.gives args.good in
      let last = second.runs in
      let f = last.1.0 in
      let g = last.1.2 in
      let same : f ≡ frame q.t b = same_Some f (frame q.t b) (sym last.1.1 ∙ is.there) in
      let long : length hs ≡ length good.gives = l.many ∙ all_many q trees good.gives good.derive in
      let as_long = long ∙ each_length (expression_in q.m q.x.active) good.gives args.gives good.are in
      let ordered = in_profile_order hs args.gives in
      let whole = same_stack st (at_floats hs args.gives) (at_premises hs args.gives) first.gives second.gives g.0 g.1 args.floats
      args.premises g.3 in
      let each-one = one_for_each q.m q.t q.x c q.a b q.sx is.said args.gives as_long in
      let many = as_many f (frame q.t b) (length ordered) (length g.1) each-one same g.4.one_each in
      let ends = ends_agree st ordered g.0 g.1 whole many in
      let given : Gives q.t q.a (frame q.t b) ordered g.2 =
      subst (λ as'. Gives q.t q.a (frame q.t b) as' g.2) (sym ends.1) (subst (λ f. Gives q.t q.a f g.1 g.2) same g.4) in
      let here = gives_here q.m q.t q.x c q.a b q.sx is.said good.gives args.gives long good.are g.2 given in
      record {
        gives = g.2;
        expression = here.gives;
        derives = of_arguments q w trees c good.gives here.gives active found good.derive here.given;
        is = here.is;
        few = here.short;
        short = good.short;
        runs = subst (λ s. Goes q s rest st') (g.5 ∙ ap (λ l. l ++ g.2 ∷ []) (sym ends.0)) last.2;
      }

  backward_at : (w : Word) (trees : Trees) (steps : List Step) (o : Option Hypothesis) (r : Option Assertion) → active_named q w ≡ o
      → earlier_named q w ≡ r → option_map length (taken_by q.earlier q.x.active w) ≡ Some (how_many trees) → is_out q w ≡ false
      → joined (taken_by q.earlier q.x.active w) (listings q.m q.earlier q.x.active trees) (step_in q.m q.x.active w) ≡ Some steps
      → AnswersOfTrees trees → Answers (node w trees) steps
  backward_at w trees steps (Some h) r active found enough kept lists answers st rest st' k =
      let put = q.puts w h active in
      let l = leaf q w trees steps h active enough lists in
      let runs : Goes q st (put.own ∷ rest) st' = subst (λ ss. Goes q st (ss ++ rest) st') l.steps_are k in
      let same : runs.0 ≡ st ++ put.gives ∷ [] =
      Runs-same q.lib q.t q.a (put.own ∷ []) st runs.0 (st ++ put.gives ∷ []) (runs.0, runs.1, refl)
      (st ++ put.gives ∷ [], put.moves st, refl) in
      let derives = of_hypothesis q w trees h active in
      record {
        gives = put.gives;
        good = record {
          gives = said_by h;
          derives = derives;
          is = put.is;
          short = (
            subst (λ o. IsShortAt o (value q.earlier q.x (node w trees))) (sym active) tt,
            subst (AllAreShort q.earlier q.x) (sym l.no_trees) tt,
          );
        };
        runs = subst (λ s. Goes q s rest st') same runs.2;
      }
  backward_at w trees steps None None active found enough kept lists answers st rest st' k =
      let j = joined_parts (taken_by q.earlier q.x.active w) (listings q.m q.earlier q.x.active trees)
      (step_in q.m q.x.active w) steps lists in
      absurd
      (let no : None ≡ Some j.hypotheses =
      sym (takes_earlier q w active ∙ ap (option_map (λ (c : Assertion). c.hypotheses)) found) ∙ j.takes in
      cc)
  backward_at w trees steps None (Some c) active found enough kept lists answers st rest st' k =
      let g = cited_well w c trees steps active found kept enough lists answers st rest st' k in
      record {
        gives = g.gives;
        good = record {
          gives = g.expression;
          derives = g.derives;
          is = g.is;
          short = (
            subst (λ o. IsShortAt o (value q.earlier q.x (node w trees))) (sym active) (subst (IsShortAt None) (sym g.derives) g.few),
            g.short,
          );
        };
        runs = g.runs;
      }

  mutual
    unfolding AnswersOfTrees

    pub backward : (tr : Tree) (steps : List Step) → TakesEnough q.earlier q.x.active tr → list_any (is_out q) (labels_cited tr) ≡ false
        → listing q.m q.earlier q.x.active tr ≡ Some steps → Answers tr steps
    backward (node w trees) steps enough kept lists =
        let parts = or_parts (is_out q w) (list_any (is_out q) (labels_cited_by_each trees)) kept in
        backward_at w trees steps (active_named q w) (earlier_named q w) refl refl enough.0 parts.0 lists
        (λ ps are. backwards trees ps enough.1 parts.1 are)

    backwards : (ts : Trees) (parts : List (List Step)) → TakeEnough q.earlier q.x.active ts
        → list_any (is_out q) (labels_cited_by_each ts) ≡ false → listings q.m q.earlier q.x.active ts ≡ Some parts → AllAnswer ts parts
    backwards none parts enough kept lists = subst (AllAnswer none) (same_Some [] parts lists) tt
    backwards (some tr ts) parts enough kept lists =
        let ls = both_parts (listing q.m q.earlier q.x.active tr) (listings q.m q.earlier q.x.active ts) parts lists in
        let out = or_parts (list_any (is_out q) (labels_cited tr)) (list_any (is_out q) (labels_cited_by_each ts))
        (sym (list_any-append (is_out q) (labels_cited tr) (labels_cited_by_each ts)) ∙ kept) in
        subst (AllAnswer (some tr ts)) (sym ls.4) (backward tr ls.0 enough.0 out.0 ls.2, backwards ts ls.1 enough.1 out.1 ls.3)
