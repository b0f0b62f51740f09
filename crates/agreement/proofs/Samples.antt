-- The examples: what is taken of them, and how their proofs check.
use Rattle.std.specs.Prelude.{◌≡◌, ℕ, true, false, List, [], ◌∷◌, codes, All, Some, Err, IsTrue, is_some, refl}
use Rattle.std.specs.List.{list_any, list_all}
use Rattle.std.proofs.Common.{arith, subst, sym, ap, ◌∙◌}
use Rattle.std.proofs.lemmas.Bool.{or_from, or_left, and_from}
use Rattle.std.proofs.lemmas.List.Elements.{All-nil}
use Rattle.std.proofs.lemmas.Option.{same_Some}
use Rattle.mmtext.specs.Words.{Word, has_dot}
use Rattle.mmsyntax.specs.declared.statement.Symbol.TheVariants.{Const}
use Rattle.mmsyntax.specs.declared.statement.Assertion.{Assertion as Unit'}
use Rattle.mmsyntax.proofs.DottedWords.{plain_not_dotted, numbered}
use Rattle.mmsyntax.proofs.Names.{bytes_eq-same}
use Rattle.mmsyntax.specs.Dotted.{is_dotted, hypothesis_numbered}
use Rattle.mmframes.specs.Frames.{occurs}
use Rattle.derivation.specs.declared.fault.ProofFault.{ProofFault}
use Rattle.derivation.specs.declared.fault.ProofFaultKind.TheVariants.{StatementDiffers}
use Rattle.derivation.specs.Derivation.{Proves}
use Rattle.derivation.specs.Databases.{citable_at, AllCheck}
use Rattle.derivation.specs.Outcomes.{IsOutcome, outcome, all_grown}
use Rattle.derivation.proofs.OneFault.{fault-excludes-proof}
use Rattle.derivation.proofs.Outcome.{outcome-is}
use Rattle.source.specs.Letters.{decoded}
use Rattle.source.specs.Sources.{Declares}
use Rattle.source.specs.Examples.{scopes, r, m, n, t, leaf}
use Rattle.source.specs.Scopes.{Assertion}
use Rattle.taking.specs.Names.{Map, HasPlaces, label_in, is_named_well, is_label_named_well}
use Rattle.taking.specs.Says.{each, expression_in, premises, pairs_in, IsFloatTaken, SaysSame}
use Rattle.taking.specs.Listings.{IsListed}
use Rattle.taking.specs.Taken.{Takes, chosen_of}
use Rattle.taking.specs.Examples.{whole, library, places, taken_m, taken_t, both_chosen}
use Rattle.taking.proofs.Samples.{has_places, keeps_names, says_m, says_t, lists_t}
use Rattle.agreement.specs.Taken.{IsTakenWithProof, DerivesShort}
use Rattle.agreement.specs.Laws.{LabelsDiffer}
use Rattle.agreement.specs.Examples.{two, proof_of_t, dotted, dotted_source, before_b, b, proof_of_b, all_chosen, three_constants}
use Rattle.agreement.specs.Examples.{stating, yes, taken_a, taken_b, one_label_twice}
use Rattle.agreement.proofs.Agreed.{proofs_agree}

-- ---- the library of two

pub two_declared : Declares scopes whole
unfolding decoded
two_declared = record { lawful = refl; declared = refl }

pub two_taken : Takes whole both_chosen two [] ((r, codes "x") ∷ [])
unfolding decoded
two_taken = record {
  there = refl;
  places = places;
  has_places = has_places;
  keeps_names = keeps_names;
  taken = (taken_m, taken_t ∷ [], refl, (says_m, (refl, refl)), (taken_t, [], refl, (says_t, (refl, lists_t)), refl));
  axioms_told = refl;
  names_told = refl;
}

pub two_differ : LabelsDiffer two
two_differ = (refl, (refl, tt))

pub t_taken : IsTakenWithProof whole both_chosen (m ∷ n ∷ []) t proof_of_t
unfolding decoded
t_taken = record { later = []; stands = refl; is_chosen = refl; has_proof = refl; no_reason = refl }

pub t_derives : DerivesShort (m ∷ n ∷ []) t proof_of_t
unfolding decoded
t_derives = (refl, (omega arith, ((tt, tt), ((tt, tt), ((tt, tt), tt)))))

pub t_proves : Proves (citable_at two 1) library taken_t taken_t.proof taken_t.statement
t_proves =
    let one = proofs_agree scopes whole both_chosen two [] ((r, codes "x") ∷ []) two_declared two_taken two_differ (m ∷ n ∷ []) t
    proof_of_t t_taken in
    let same : one.theorem ≡ taken_t = same_Some one.theorem taken_t (sym one.stands) in
    subst (λ (a : Unit'). Proves (citable_at two 1) library a a.proof a.statement) same (one.agrees.1 t_derives)

-- ---- the library with one label twice

places_of_dotted : Map
places_of_dotted = record {
  constants = yes ∷ codes "A" ∷ codes "B" ∷ [];
  floats = [];
  variables = [];
  labels = (codes "a", codes "a") ∷ (codes "a.1", codes "x") ∷ (codes "a.2", codes "x") ∷ (codes "b", codes "b") ∷ [];
}

pub dotted_declared : Declares dotted dotted_source
unfolding decoded
dotted_declared = record { lawful = refl; declared = refl }

-- which labels are changed
none_dotted : (labels : List Word) (w : Word) → has_dot w ≡ false → list_any (λ l. is_dotted l w) labels ≡ false
none_dotted [] w h = refl
none_dotted (l ∷ labels) w h =
    or_from (is_dotted l w) (list_any (λ l. is_dotted l w) labels) (plain_not_dotted l w h) (none_dotted labels w h)

is_kept : (labels : List Word) (w : Word) → has_dot w ≡ false → IsTrue (is_label_named_well dotted_source labels (w, w))
is_kept labels w h = ap (λ c. is_named_well dotted_source c (w, w)) (none_dotted labels w h) ∙ bytes_eq-same w

is_changed : (labels : List Word) (w : Word) → is_dotted (codes "a") w ≡ true
    → IsTrue (is_label_named_well dotted_source (codes "a" ∷ labels) (w, codes "x"))
is_changed labels w h =
    ap (λ c. is_named_well dotted_source c (w, codes "x")) (or_left (is_dotted (codes "a") w) (list_any (λ l. is_dotted l w) labels) h)

behind_a : (w : Word) (k : ℕ) → hypothesis_numbered (codes "a") w ≡ Some k → is_dotted (codes "a") w ≡ true
unfolding is_dotted
behind_a w k e = ap is_some e

labels_kept : IsTrue (list_all (is_label_named_well dotted_source (codes "a" ∷ codes "a.1" ∷ codes "a.2" ∷ codes "b" ∷ []))
    places_of_dotted.labels)
unfolding places_of_dotted
labels_kept =
    let all = codes "a" ∷ codes "a.1" ∷ codes "a.2" ∷ codes "b" ∷ [] in
    let others = codes "a.1" ∷ codes "a.2" ∷ codes "b" ∷ [] in
    let one = sym (numbered (codes "a") (codes "a.1") (codes "1") 1 refl refl refl (omega arith)) in
    let two = sym (numbered (codes "a") (codes "a.2") (codes "2") 2 refl refl refl (omega arith)) in
    let first = is_changed others (codes "a.1") (behind_a (codes "a.1") 1 one) in
    let second = is_changed others (codes "a.2") (behind_a (codes "a.2") 2 two) in
    and_from _ _ (is_kept all (codes "a") refl) (and_from _ _ first (and_from _ _ second (and_from _ _ (is_kept all (codes "b") refl) refl)))

says : (x : Assertion) (a : Unit') → x.active ≡ [] → x.pairs ≡ [] → a.pairs ≡ [] → a.hyps ≡ []
    → label_in places_of_dotted x.label ≡ Some a.label → expression_in places_of_dotted [] x.statement ≡ Some a.statement
    → SaysSame places_of_dotted three_constants x a
says x a none no_pairs no_places no_hyps label statement = record {
  label = label;
  floats = subst (All (IsFloatTaken places_of_dotted three_constants)) (sym none) (All-nil (IsFloatTaken places_of_dotted three_constants));
  hyps = ap (λ hs. each (expression_in places_of_dotted hs) (premises hs)) none ∙ ap (λ l. Some l) (sym no_hyps);
  statement = ap (λ hs. expression_in places_of_dotted hs x.statement) none ∙ statement;
  pairs = ap (pairs_in places_of_dotted x.active) no_pairs ∙ sym no_places;
}

lists_b : IsListed places_of_dotted before_b b taken_b
unfolding decoded places_of_dotted
lists_b = record { tree = leaf (codes "a.2"); denotes = refl; lists = refl }

dotted_places : HasPlaces places_of_dotted three_constants dotted_source (chosen_of all_chosen dotted_source)
unfolding places_of_dotted
dotted_places = record {
  constants = refl;
  floats = refl;
  labels = refl;
  as_many_constants = refl;
  as_many_floats = refl;
  as_many_variables = refl;
  variables = refl;
}

pub dotted_taken : Takes dotted_source all_chosen one_label_twice [] ((codes "a.1", codes "x") ∷ (codes "a.2", codes "x") ∷ [])
unfolding decoded places_of_dotted
dotted_taken =
    let x_a : Unit' = record taken_a { label = codes "x"; statement = Const 0 ∷ Const 1 ∷ [] } in
    let x_b : Unit' = record taken_a { label = codes "x"; statement = Const 0 ∷ Const 2 ∷ [] } in
    let says_a = says (stating (codes "a") (yes ∷ [])) taken_a refl refl refl refl refl refl in
    let says_x_a = says (stating (codes "a.1") (yes ∷ codes "A" ∷ [])) x_a refl refl refl refl refl refl in
    let says_x_b = says (stating (codes "a.2") (yes ∷ codes "B" ∷ [])) x_b refl refl refl refl refl refl in
    let says_b = says b taken_b refl refl refl refl refl refl in
    record {
      there = refl;
      places = places_of_dotted;
      has_places = dotted_places;
      keeps_names = record { constants = refl; variables = refl; floats = refl; labels = labels_kept };
      taken = (
        taken_a,
        x_a ∷ x_b ∷ taken_b ∷ [],
        refl,
        (says_a, (refl, refl)),
        (
          x_a,
          x_b ∷ taken_b ∷ [],
          refl,
          (says_x_a, (refl, refl)),
          (x_b, taken_b ∷ [], refl, (says_x_b, (refl, refl)), (taken_b, [], refl, (says_b, (refl, lists_b)), refl)),
        ),
      );
      axioms_told = refl;
      names_told = refl;
    }

pub b_taken : IsTakenWithProof dotted_source all_chosen before_b b proof_of_b
unfolding decoded
b_taken = record { later = []; stands = refl; is_chosen = refl; has_proof = refl; no_reason = refl }

pub b_derives : DerivesShort before_b b proof_of_b
unfolding decoded
b_derives = (refl, (omega arith, tt))

pub not_checked : AllCheck one_label_twice → ⊥
unfolding outcome all_grown occurs
not_checked h =
    let lib = citable_at one_label_twice 3 in
    let fault : ProofFault = record { step = 1; kind = StatementDiffers } in
    let comes : outcome lib three_constants taken_b ≡ Err fault = refl in
    fault-excludes-proof lib three_constants taken_b fault
    (subst (IsOutcome lib three_constants taken_b) comes (outcome-is lib three_constants taken_b)) (h 3 taken_b refl refl)
