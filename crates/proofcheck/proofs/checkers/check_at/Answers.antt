use Rattle.std.proofs.Common.{◌≡◌, List, ℕ, refl}
use Rattle.std.proofs.lemmas.Option.{slice_get_read}
use Rattle.std.proofs.lemmas.Result.{on_ok_weaker, IfErr-weaker}
use Rattle.derivation.specs.Derivation.{Citable}
use Rattle.derivation.specs.Databases.{citable_at}
use Rattle.proofcheck.specs.Reports.{frame_below, place_from}
use Rattle.proofcheck.proofs.Places.{below-cited, checks-at, fault-at}
use Rattle.proofcheck.proofs.checkers.check_at.Goals as goal

pub returns-clause-yes : goal.returns-clause-yes
returns-clause-yes c =
    let db = c.args.framed.now.db.now in
    let lib : Citable = λ label. frame_below c.args.framed.now.frames.now c.args.i (place_from 0 label c.args.framed.now.places.now) in
    let each : (label : List ℕ) → lib label ≡ citable_at db c.args.i label =
    λ label. rw (c.requires.framed.frames, c.requires.framed.places) (below-cited db.prelude db.assertions c.args.i label) in
    let same : lib ≡ citable_at db c.args.i = λ t. λ label. each label t in
    let at = rw c.assertions.ensures.value at
    (slice_get_read c.assertions.result.now _ c.args.i c.index-assertions-i.result refl
    (rw c.assertions.ensures.value c.requires.place) c.index-assertions-i.is) in
    on_ok_weaker c.check.result (checks-at db c.args.i c.index-assertions-i.result lib same at)
    (rw c.prelude.ensures at c.check.ensures.yes)

pub returns-clause-fault : goal.returns-clause-fault
returns-clause-fault c =
    let db = c.args.framed.now.db.now in
    let lib : Citable = λ label. frame_below c.args.framed.now.frames.now c.args.i (place_from 0 label c.args.framed.now.places.now) in
    let each : (label : List ℕ) → lib label ≡ citable_at db c.args.i label =
    λ label. rw (c.requires.framed.frames, c.requires.framed.places) (below-cited db.prelude db.assertions c.args.i label) in
    let same : lib ≡ citable_at db c.args.i = λ t. λ label. each label t in
    let at = rw c.assertions.ensures.value at
    (slice_get_read c.assertions.result.now _ c.args.i c.index-assertions-i.result refl
    (rw c.assertions.ensures.value c.requires.place) c.index-assertions-i.is) in
    IfErr-weaker c.check.result _ _ (λ fault h n. fault-at db c.args.i c.index-assertions-i.result lib same at fault (h n))
    (rw c.prelude.ensures at c.check.ensures.fault)
