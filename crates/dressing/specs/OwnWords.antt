-- Under which labels what scripts give in their own words goes into the source.
use Rattle.std.specs.Prelude.{List, filter_map, find, Option, None, is_some, if◌then◌else◌}
use Rattle.std.specs.Option.{option_map, option_or}
use Rattle.std.specs.Str.{bytes_eq}
use Rattle.mmtext.specs.Words.{Word}
use Rattle.pasting.specs.Quotes.{GivenLabels, GivenProof}
use Rattle.sourceediting.specs.Following.{Followed, Following, label_then}

-- ---- proofs

abbrev pub proof_for : List GivenProof → Word → Option GivenProof
proof_for gs w = find (λ g. bytes_eq w g.label) gs

-- that of an assertion was given under the label that it has in the end, or else under the one with which it came in. It is quoted under
-- its label then
abbrev pub proof_then : List GivenProof → Followed → Option GivenProof
proof_then gs x =
    option_map (λ g. record { label = label_then x; proof = g.proof }) (option_or (proof_for gs x.now) (proof_for gs x.first))

abbrev pub proofs_then : List GivenProof → Following → List GivenProof
proofs_then gs f = filter_map (proof_then gs) f.living

-- ---- labels of `$e`

abbrev pub premises_for : List GivenLabels → Word → Option GivenLabels
premises_for gs w = find (λ g. bytes_eq w g.label) gs

-- those of an assertion that was added were given under the label with which it came in
abbrev pub premises_then : List GivenLabels → Followed → Option GivenLabels
premises_then gs x =
    if is_some x.source then None else option_map (λ g. record { label = label_then x; premises = g.premises }) (premises_for gs x.first)

abbrev pub labels_then : List GivenLabels → Following → List GivenLabels
labels_then gs f = filter_map (premises_then gs) f.living
