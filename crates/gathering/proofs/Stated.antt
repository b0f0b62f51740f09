-- What is stated of an assertion whose names all have places, and what becomes of it.
use Rattle.std.proofs.Common.{◌≡◌, ◌∙◌, List, [], true, refl, sym, ap, subst, Result, Ok, Err}
use Rattle.std.specs.declared.alloc.AllocError.{AllocError}
use Rattle.std.specs.Prelude.{Option, Some, None, is_some, IfSome, IfOk, filter_map}
use Rattle.std.specs.Option.{option_map}
use Rattle.std.proofs.lemmas.Option.{same_Some}
use Rattle.mmtext.specs.Words.{Word}
use Rattle.mmsyntax.specs.Tables.{Tables}
use Rattle.mmsyntax.specs.declared.statement.Kind.TheVariants.{Axiom, Theorem}
use Rattle.mmsyntax.specs.declared.statement.Assertion.{Assertion as Unit'}
use Rattle.source.specs.Scopes.{Hypothesis, Pair, Assertion, Scope}
use Rattle.source.specs.Statements.{Proof}
use Rattle.taking.specs.declared.reason.Reason.{Reason}
use Rattle.taking.specs.Names.{Map, label_in}
use Rattle.taking.specs.Says.{each, premises, expression_in, pair_at, ascending}
use Rattle.taking.specs.Taken.{HasProof}
use Rattle.taking.specs.Listings.{IsListed}
use Rattle.sites.specs.Actives.{Placed, float_at}
use Rattle.sites.specs.Sites.{Sited}
use Rattle.sites.specs.declared.names.LibraryNames.{LibraryNames}
use Rattle.gathering.specs.Placed.{map_of, symbols_by}
use Rattle.gathering.specs.Assembled.{HasAllPlaces, IsStatedBy, IsStated, IsMade, one_of}
use Rattle.gathering.specs.Outcomes.{IsOutcome, HasStepsFor}
use Rattle.gathering.specs.declared.assembling.One.{One}
use Rattle.gathering.specs.declared.proving.Outcome.{Outcome}
use Rattle.gathering.specs.declared.proving.Outcome.TheVariants as outcome
use Rattle.taking.specs.Reasons.{Choice, reason, reason_of}

-- ---- stated

not_none : {A : Type 0} (o : Option A) → is_some o ≡ true → o ≡ None → ⊥
not_none None e f = absurd cc
not_none (Some x) e f = absurd cc

abbrev pub made_of : Sited → List Hypothesis → Placed
made_of t hs = record { constants = t.constants; floats = t.floats; active = hs }

module _ (t : Sited) (names : LibraryNames) (tables : Tables) (p : Placed) (hs : List Hypothesis) (made : p ≡ made_of t hs) where
  pub hyps_there : (o : Option Assertion) → IfSome o (HasAllPlaces (map_of t names) tables) → option_map (λ x. x.active) o ≡ Some hs
      → each (each (symbols_by p)) (premises hs) ≡ None → ⊥
  hyps_there None known active none = absurd cc
  hyps_there (Some x) known active none =
      let same : hs ≡ x.active = sym (same_Some x.active hs active) in
      not_none (each (expression_in (map_of t names) x.active) (premises x.active)) known.hyps
      (subst (λ (ks : List Hypothesis). each (each (symbols_by (made_of t ks))) (premises ks) ≡ None) same
      (subst (λ (q : Placed). each (each (symbols_by q)) (premises hs) ≡ None) made none))

  pub statement_there : (o : Option Assertion) (words : List Word) → IfSome o (HasAllPlaces (map_of t names) tables)
      → option_map (λ x. x.active) o ≡ Some hs → option_map (λ x. x.statement) o ≡ Some words → each (symbols_by p) words ≡ None → ⊥
  statement_there None words known active said none = absurd cc
  statement_there (Some x) words known active said none =
      let same : hs ≡ x.active = sym (same_Some x.active hs active) in
      let word : words ≡ x.statement = sym (same_Some x.statement words said) in
      not_none (expression_in (map_of t names) x.active x.statement) known.statement
      (subst (λ (ks : List Hypothesis). each (symbols_by (made_of t ks)) x.statement ≡ None) same
      (subst (λ (ws : List Word). each (symbols_by (made_of t hs)) ws ≡ None) word
      (subst (λ (q : Placed). each (symbols_by q) words ≡ None) made none)))

  pub label_there : (o : Option Assertion) (own : Word) → IfSome o (HasAllPlaces (map_of t names) tables)
      → option_map (λ x. x.label) o ≡ Some own → label_in (map_of t names) own ≡ None → ⊥
  label_there None own known named none = absurd cc
  label_there (Some x) own known named none =
      let same : own ≡ x.label = sym (same_Some x.label own named) in
      not_none (label_in (map_of t names) x.label) known.label
      (subst (λ (v : Word). label_in (map_of t names) v ≡ None) same none)

  stated_one : (o : Option Assertion) (words : List Word) (own name : Word) (ps : List Pair) (a : Unit')
      → IfSome o (HasAllPlaces (map_of t names) tables)
      → option_map (λ x. x.active) o ≡ Some hs
      → option_map (λ x. x.statement) o ≡ Some words
      → option_map (λ x. x.label) o ≡ Some own
      → option_map (λ x. x.pairs) o ≡ Some ps
      → label_in (map_of t names) own ≡ Some name
      → IsStatedBy p name ps hs words a
      → IfSome o (λ x. IsStated (map_of t names) tables x a)
  stated_one None words own name ps a known h w l q label by = absurd cc
  stated_one (Some x) words own name ps a known h w l q label by =
      let m = map_of t names in
      let active : hs ≡ x.active = sym (same_Some x.active hs h) in
      let said : words ≡ x.statement = sym (same_Some x.statement words w) in
      let named : own ≡ x.label = sym (same_Some x.label own l) in
      let apart : ps ≡ x.pairs = sym (same_Some x.pairs ps q) in
      let here : p ≡ made_of t x.active = made ∙ ap (made_of t) active in
      record {
        says = record {
          label = subst (λ (v : Word). label_in m v ≡ Some a.label) named (label ∙ ap Some (sym by.label));
          floats = known.floats;
          hyps =
              sym (subst (λ (r : Placed). Some a.hyps ≡ each (each (symbols_by r)) (premises x.active)) here
              (subst (λ (ks : List Hypothesis). Some a.hyps ≡ each (each (symbols_by p)) (premises ks)) active by.hyps));
          statement =
              sym (subst (λ (r : Placed). Some a.statement ≡ each (symbols_by r) x.statement) here
              (subst (λ (ws : List Word). Some a.statement ≡ each (symbols_by p) ws) said by.statement));
          pairs =
              sym (subst (λ (r : Placed). a.pairs ≡ ascending (filter_map (λ q. pair_at (float_at r q.0) (float_at r q.1)) x.pairs)) here
              (subst (λ (qs : List Pair). a.pairs ≡ ascending (filter_map (λ q. pair_at (float_at p q.0) (float_at p q.1)) qs)) apart
              by.pairs));
        };
        kind = by.kind;
        proof = by.proof;
      }

  pub stated_same : (o : Option Assertion) (words : List Word) (own name : Word) (ps : List Pair) (made : Result Unit' AllocError)
      → IfSome o (HasAllPlaces (map_of t names) tables)
      → option_map (λ x. x.active) o ≡ Some hs
      → option_map (λ x. x.statement) o ≡ Some words
      → option_map (λ x. x.label) o ≡ Some own
      → option_map (λ x. x.pairs) o ≡ Some ps
      → label_in (map_of t names) own ≡ Some name
      → IfOk made (IsStatedBy p name ps hs words)
      → IfOk made (λ a. IfSome o (λ x. IsStated (map_of t names) tables x a))
  stated_same o words own name ps (Ok a) known h w l q label by = stated_one o words own name ps a known h w l q label by
  stated_same o words own name ps (Err e) known h w l q label by = tt

-- ---- proofs

pub axiom_proof : (m : Map) (earlier : List Assertion) (x : Assertion) (a : Unit') (p : Option Proof) (r : Option Reason) → p ≡ None
    → a.kind ≡ Axiom → a.proof ≡ [] → HasProof m earlier x a p r
axiom_proof m earlier x a None r e k n = (k, n)
axiom_proof m earlier x a (Some p) r e k n = absurd cc

pub told_proof : (m : Map) (earlier : List Assertion) (x : Assertion) (a : Unit') (p : Option Proof) (r : Option Reason) (why : Reason)
    → r ≡ Some why → a.kind ≡ Axiom → a.proof ≡ [] → HasProof m earlier x a p r
told_proof m earlier x a None r why e k n = (k, n)
told_proof m earlier x a (Some p) None why e k n = absurd cc
told_proof m earlier x a (Some p) (Some w) why e k n = (k, n)

pub listed_proof : (m : Map) (earlier : List Assertion) (x : Assertion) (a : Unit') (p : Option Proof) (r : Option Reason) (proof : Proof)
    → p ≡ Some proof → r ≡ None → a.kind ≡ Theorem → IsListed m earlier x a → HasProof m earlier x a p r
listed_proof m earlier x a None r proof e f k l = absurd cc
listed_proof m earlier x a (Some p) None proof e f k l = (k, l)
listed_proof m earlier x a (Some p) (Some w) proof e f k l = absurd cc

no_reason : (choice : Choice) (earlier : List Assertion) (x : Assertion) (p : Option Proof) → p ≡ None → reason_of choice earlier x p ≡ None
no_reason choice earlier x None e = refl
no_reason choice earlier x (Some p) e = absurd cc

-- what is stated, with what becomes of its proof, is taken
pub made : (m : Map) (t : Tables) (choice : Choice) (earlier : List Assertion) (x : Assertion) (a : Unit') (o : Outcome) → IsStated m t x a
    → IsOutcome m choice earlier x o → IsMade m t choice earlier x (one_of a o)
made m t choice earlier x a outcome.Axiom stated is = record {
  taken = (stated.says, axiom_proof m earlier x a x.proof (reason choice earlier x) is stated.kind stated.proof);
  told = no_reason choice earlier x x.proof is;
}
made m t choice earlier x a (outcome.AsAxiom why) stated is = record {
  taken = (stated.says, told_proof m earlier x a x.proof (reason choice earlier x) why is stated.kind stated.proof);
  told = is;
}
made m t choice earlier x a (outcome.Theorem steps) stated is =
    let made-a : Unit' = record a { kind = Theorem; proof = steps } in
    record {
      taken = (
        record {
          label = stated.says.label;
          floats = stated.says.floats;
          hyps = stated.says.hyps;
          statement = stated.says.statement;
          pairs = stated.says.pairs;
        },
        listed_proof m earlier x made-a x.proof (reason choice earlier x) is.proof is.has_proof is.no_reason refl
            record { tree = is.tree; denotes = is.denotes; lists = is.lists },
      );
      told = is.no_reason;
    }

-- so is the assertion at a place, where what it needs has steps
pub made_there : (m : Map) (t : Tables) (choice : Choice) (earlier : List Assertion) (s : Scope) (o : Option Assertion) (a : Unit')
    (becomes : Outcome) (one : One) → one ≡ one_of a becomes → IfSome o (λ x. IsStated m t x a)
    → IfSome o (λ x. HasStepsFor m choice s x → IsOutcome m choice earlier x becomes)
    → IfSome o (λ x. HasStepsFor m choice s x → IsMade m t choice earlier x one)
made_there m t choice earlier s None a becomes one e stated is = tt
made_there m t choice earlier s (Some x) a becomes one e stated is =
    λ known.
    subst (λ (o : One). IsMade m t choice earlier x o) (sym e) (made m t choice earlier x a becomes stated (is known))
