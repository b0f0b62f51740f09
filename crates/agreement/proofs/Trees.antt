-- The nodes of a tree beside its listing: what their labels name, and over how many trees they stand.
use Rattle.std.proofs.Common.{◌≡◌, ℕ, suc, Bool, false, List, [], ◌∷◌, ◌++◌, length, sym, ap, ◌∙◌}
use Rattle.std.proofs.Common.{Ok}
use Rattle.std.specs.Prelude.{Option, Some, None, find}
use Rattle.std.specs.Option.{option_map}
use Rattle.std.specs.List.{list_any}
use Rattle.std.specs.Str.{bytes_eq}
use Rattle.std.proofs.lemmas.Bool.{cond-true, cond-false}
use Rattle.std.proofs.lemmas.Option.{same_Some}
use Rattle.mmtext.specs.Words.{Word}
use Rattle.mmsyntax.specs.declared.statement.Symbol.{Symbol}
use Rattle.mmsyntax.specs.declared.statement.Step.{Step}
use Rattle.mmsyntax.specs.declared.statement.Step.TheVariants.{Cite}
use Rattle.mmsyntax.specs.declared.statement.Assertion.{Assertion as Unit'}
use Rattle.mmsyntax.specs.Tables.{Tables}
use Rattle.mmsyntax.proofs.Items.{found_is_any, not_found_is_none}
use Rattle.mmframes.specs.Frames.{frame}
use Rattle.derivation.specs.Derivation.{Citable}
use Rattle.derivation.specs.Moves.{Moves}
use Rattle.derivation.proofs.Forests.{Runs}
use Rattle.source.specs.Scopes.{Hypothesis, label_of, Assertion}
use Rattle.source.specs.Proofs.{Trees, node, none, some, taken_by}
use Rattle.taking.specs.Names.{Map}
use Rattle.taking.specs.Says.{each, expression_in}
use Rattle.taking.specs.Lengths.{how_many}
use Rattle.taking.specs.Listings.{in_profile_order, joined, step_in, listings}
use Rattle.taking.specs.Reasons.{Choice, is_left_out}
use Rattle.verifying.specs.Citations.{Expression, said_by}
use Rattle.verifying.specs.Verifies.{cited, all_of, made_of, named}
use Rattle.verifying.specs.Laws.{value, values}
use Rattle.agreement.proofs.Said.{IsSaid}
use Rattle.agreement.proofs.Joined.{joined_parts, before_parts, no_trees, none_ordered, flat, listed_as}

-- ---- what labels name

-- the label of an active hypothesis: its step puts what it says
pub record IsPut (m : Map) (t : Tables) (x : Assertion) (a : Unit') (lib : Citable) (w : Word) (h : Hypothesis) : Type 0 where
  pub own : Step
  pub gives : List Symbol
  pub step : step_in m x.active w ≡ Some own
  pub is : expression_in m x.active (said_by h) ≡ Some gives
  pub moves : (st : List (List Symbol)) → Moves lib t a st own (st ++ gives ∷ [])

-- the label of an earlier assertion: its step cites what is taken of it
pub record IsNamed (m : Map) (t : Tables) (x : Assertion) (lib : Citable) (w : Word) (c : Assertion) : Type 0 where
  pub theorem : Unit'
  pub said : IsSaid m t c theorem
  pub step : step_in m x.active w ≡ Some (Cite theorem.label)
  pub there : lib theorem.label ≡ Some (frame t theorem)

-- a proof of x, and its listing as a proof of a: each of its labels names the same, unless it isn't chosen
pub record Beside : Type 0 where
  pub m : Map
  pub t : Tables
  pub choice : Choice
  pub earlier : List Assertion
  pub x : Assertion
  pub a : Unit'
  pub lib : Citable
  pub sx : IsSaid m t x a
  pub puts : (w : Word) (h : Hypothesis) → find (λ h. bytes_eq w (label_of h)) x.active ≡ Some h → IsPut m t x a lib w h
  pub cites :
      (w : Word) (c : Assertion) → find (λ h. bytes_eq w (label_of h)) x.active ≡ None → find (λ c. bytes_eq w c.label) earlier ≡ Some c
      → is_left_out earlier choice.chosen w ≡ false → IsNamed m t x lib w c

abbrev pub Values : Type 0
Values = List (List Symbol)

module _ (q : Beside) where
  abbrev pub active_named : Word → Option Hypothesis
  active_named w = find (λ h. bytes_eq w (label_of h)) q.x.active

  abbrev pub earlier_named : Word → Option Assertion
  earlier_named w = find (λ c. bytes_eq w c.label) q.earlier

  abbrev pub is_out : Word → Bool
  is_out w = is_left_out q.earlier q.choice.chosen w

  abbrev pub AreIn : List Expression → Values → Type 0
  AreIn es zs = each (expression_in q.m q.x.active) es ≡ Some zs

  abbrev pub Goes : Values → List Step → Values → Type 0
  Goes st steps st' = Runs q.lib q.t q.a st steps st'

  -- ---- labels

  pub takes_none : (w : Word) (h : Hypothesis) → active_named w ≡ Some h → taken_by q.earlier q.x.active w ≡ Some []
  takes_none w h e =
      cond-true (list_any (λ h. bytes_eq w (label_of h)) q.x.active) (Some []) (option_map (λ c. c.hypotheses) (earlier_named w))
      (found_is_any (λ h. bytes_eq w (label_of h)) q.x.active h e)

  pub takes_earlier : (w : Word) → active_named w ≡ None
      → taken_by q.earlier q.x.active w ≡ option_map (λ (c : Assertion). c.hypotheses) (earlier_named w)
  takes_earlier w e =
      cond-false (list_any (λ h. bytes_eq w (label_of h)) q.x.active) (Some []) (option_map (λ c. c.hypotheses) (earlier_named w))
      (not_found_is_none (λ h. bytes_eq w (label_of h)) q.x.active e)

  -- a hypothesis stands over no trees, and its step alone is listed
  pub record IsLeaf (w : Word) (trees : Trees) (steps : List Step) (own : Step) : Type 0 where
    pub no_trees : trees ≡ none
    pub steps_are : steps ≡ own ∷ []

  pub leaf : (w : Word) (trees : Trees) (steps : List Step) (h : Hypothesis) (active : active_named w ≡ Some h)
      → option_map length (taken_by q.earlier q.x.active w) ≡ Some (how_many trees)
      → joined (taken_by q.earlier q.x.active w) (listings q.m q.earlier q.x.active trees) (step_in q.m q.x.active w) ≡ Some steps
      → IsLeaf w trees steps (q.puts w h active).own
  leaf w trees steps h active enough lists =
      let put = q.puts w h active in
      let is = takes_none w h active in
      let j = joined_parts (taken_by q.earlier q.x.active w) (listings q.m q.earlier q.x.active trees)
      (step_in q.m q.x.active w) steps lists in
      let empty : j.hypotheses ≡ [] = same_Some j.hypotheses [] (sym j.takes ∙ is) in
      let own : j.step ≡ put.own = same_Some j.step put.own (sym j.own_is ∙ put.step) in
      record {
        no_trees = no_trees trees (same_Some (how_many trees) 0 (sym enough ∙ ap (option_map length) is));
        steps_are =
            listed_as j.hypotheses [] j.parts j.step put.own steps j.steps_are empty own
            ∙ ap (λ ps. flat ps ++ put.own ∷ []) (none_ordered j.parts);
      }

  -- an assertion stands over as many trees as it has mandatory hypotheses
  pub record IsOver (w : Word) (c : Assertion) (trees : Trees) (steps : List Step) (label : List ℕ) : Type 0 where
    pub parts : List (List Step)
    pub parts_are : listings q.m q.earlier q.x.active trees ≡ Some parts
    pub many : length c.hypotheses ≡ how_many trees
    pub steps_are : steps ≡ flat (in_profile_order c.hypotheses parts) ++ Cite label ∷ []

  pub over : (w : Word) (c : Assertion) (trees : Trees) (steps : List Step) (absent : active_named w ≡ None)
      → earlier_named w ≡ Some c → (label : List ℕ) → step_in q.m q.x.active w ≡ Some (Cite label)
      → option_map length (taken_by q.earlier q.x.active w) ≡ Some (how_many trees)
      → joined (taken_by q.earlier q.x.active w) (listings q.m q.earlier q.x.active trees) (step_in q.m q.x.active w) ≡ Some steps
      → IsOver w c trees steps label
  over w c trees steps absent found label step enough lists =
      let is : taken_by q.earlier q.x.active w ≡ Some c.hypotheses =
      takes_earlier w absent ∙ ap (option_map (λ (c : Assertion). c.hypotheses)) found in
      let j = joined_parts (taken_by q.earlier q.x.active w) (listings q.m q.earlier q.x.active trees)
      (step_in q.m q.x.active w) steps lists in
      let own : j.step ≡ Cite label = same_Some j.step (Cite label) (sym j.own_is ∙ step) in
      record {
        parts = j.parts;
        parts_are = j.parts_are;
        many = same_Some (length c.hypotheses) (how_many trees) (sym (ap (option_map length) is) ∙ enough);
        steps_are =
            listed_as j.hypotheses c.hypotheses j.parts j.step (Cite label) steps j.steps_are
            (same_Some j.hypotheses c.hypotheses (sym j.takes ∙ is)) own;
      }

  -- ---- what a label makes

  pub of_hypothesis : (w : Word) (trees : Trees) (h : Hypothesis) → active_named w ≡ Some h
      → value q.earlier q.x (node w trees) ≡ Ok (said_by h)
  of_hypothesis w trees h e = ap (λ o. named q.x (values q.earlier q.x trees) o (earlier_named w)) e

  pub of_assertion : (w : Word) (trees : Trees) (c : Assertion) → active_named w ≡ None → earlier_named w ≡ Some c
      → value q.earlier q.x (node w trees) ≡ made_of q.x c (all_of (values q.earlier q.x trees))
  of_assertion w trees c e f =
      ap (λ o. named q.x (values q.earlier q.x trees) o (earlier_named w)) e ∙ ap (λ o. named q.x (values q.earlier q.x trees) None o) f

  pub of_arguments : (w : Word) (trees : Trees) (c : Assertion) (es : List Expression) (e : Expression) → active_named w ≡ None
      → earlier_named w ≡ Some c → all_of (values q.earlier q.x trees) ≡ Ok es → cited q.x c es ≡ Ok e
      → value q.earlier q.x (node w trees) ≡ Ok e
  of_arguments w trees c es e active found args given = of_assertion w trees c active found ∙ ap (made_of q.x c) args ∙ given

  pub all_many : (ts : Trees) (es : List Expression) → all_of (values q.earlier q.x ts) ≡ Ok es → how_many ts ≡ length es
  all_many none es h = let same : [] ≡ es = cc in ap length same
  all_many (some tr ts) es h =
      let b = before_parts (value q.earlier q.x tr) (all_of (values q.earlier q.x ts)) es h in
      ap suc (all_many ts b.others b.others_are) ∙ ap length (sym b.all_are)
