use Rattle.std.proofs.Common.{◌≡◌, ◌∷◌, ◌<◌, [], ℕ, Bool, true, false, List, get_or, length, sym, ap, subst, ◌∙◌, rules}
use Rattle.std.specs.Prelude.{nat_le, ◌||◌}
use mathlib.Core.Bool.{not}
use Rattle.std.proofs.lemmas.Bool.{le-leb, lt-leb}
use Rattle.std.proofs.lemmas.Option.{get_or_from_slice_get, slice_get_within}
use Rattle.mmsyntax.specs.declared.statement.Frame.{Frame}
use Rattle.mmsyntax.specs.Tables.{Tables}
use Rattle.mmframes.specs.Frames.{frame}
use Rattle.library.specs.declared.library.Ranked.{Ranked}
use Rattle.library.specs.declared.reason.Reason.TheVariants as reason
use Rattle.library.specs.Library.{Setting, label_of}
use Rattle.library.specs.Edits.{is_axiom, is_alike, where_so, replace_tests}
use Rattle.catalog.specs.Entries.{Entries, living, StandsIn, AreFramed}
use Rattle.catalog.specs.Places.{Places, IsIndex, StandsAt}
use Rattle.history.specs.Drafts.{Drafted}
use Rattle.history.specs.Refusals.{first_reason}
use Rattle.history.proofs.Commands.{so, not_so, first-some, first-none, replace_front, HasLabel, has_label, has_own}
use Rattle.catalog.proofs.Living.{found-at}
use Rattle.history.proofs.draft.Draft.find_replacement.Goals as goal

-- the tests behind those of the labels, by what was found
known : (m : Places) (inside held slice : Entries) (s : Setting) (v w old new : List ℕ) (p q : ℕ) (e y : Ranked) → IsIndex m inside
    → inside ≡ held → slice ≡ inside → (x : StandsAt slice v p) → v ≡ old → StandsIn slice q y → label_of y ≡ w → w ≡ new
    → first_reason (replace_tests s (living held) old new e) ≡ first_reason
    (where_so (is_axiom e.assertion.kind) reason.NotATheorem
    ∷ where_so (not (is_alike (frame s.prelude x.entry.assertion) (frame s.prelude y.assertion))) reason.NotAlike
    ∷ where_so (nat_le e.rank y.rank || false) reason.CitedNotLower
    ∷ [])
known m inside held slice s v w old new p q e y index same read x own at labelled own' =
    let former : HasLabel m held old p x.entry = has_label m inside held slice v old p x.entry index same read x.at x.labelled own in
    let other : HasLabel m held new q y = has_label m inside held slice w new q y index same read at labelled own' in
    replace_front s (living held) old new e x.entry y (has_own m held old p x.entry former) (has_own m held new q y other)
    (found-at m held old p x.entry former.indexed former.at former.labelled)
    (found-at m held new q y other.indexed other.at other.labelled)

-- an assertion's place has a frame
place_framed : (t : Tables) (es slice : Entries) (frames : List Frame) (p : ℕ) (e : Ranked) → AreFramed t es frames → slice ≡ es
    → StandsIn slice p e → p < length frames
place_framed t es slice frames p e framed read at =
    slice_get_within frames p (frame t e.assertion) (framed.framed p e (subst (λ l. StandsIn l p e) read at))

-- the frame that was read is that of the assertion at its place
framed_as : (t : Tables) (es slice : Entries) (frames : List Frame) (p : ℕ) (e : Ranked) (f : Frame) → AreFramed t es frames → slice ≡ es
    → StandsIn slice p e → f ≡ get_or frames p f → f ≡ frame t e.assertion
framed_as t es slice frames p e f framed read at is =
    is ∙ get_or_from_slice_get frames p (frame t e.assertion) f (framed.framed p e (subst (λ l. StandsIn l p e) read at))

-- what the test of two frames that were read answers of the two assertions
frames_alike : (t u : Tables) (es slice : Entries) (frames : List Frame) (p q : ℕ) (x y : Ranked) (f g : Frame) (b c : Bool) → u ≡ t
    → AreFramed u es frames → slice ≡ es → StandsIn slice p x → StandsIn slice q y → f ≡ get_or frames p f → g ≡ get_or frames q g
    → b ≡ is_alike f g → b ≡ c → is_alike (frame t x.assertion) (frame t y.assertion) ≡ c
frames_alike t u es slice frames p q x y f g b c table framed read at_p at_q is_f is_g answer known =
    let own = framed_as u es slice frames p x f framed read at_p is_f in
    let other = framed_as u es slice frames q y g framed read at_q is_g in
    ap (λ k. is_alike (frame k x.assertion) (frame k y.assertion)) (sym table) ∙ ap (λ k. is_alike k (frame u y.assertion)) (sym own)
    ∙ ap (is_alike f) (sym other) ∙ sym answer ∙ known

pub returns-in-Axiom-clause-refused : goal.returns-in-Axiom-clause-refused
returns-in-Axiom-clause-refused c =
    let d = c.args.self.now in
    let i = c.self.inside in
    let held : i.entries.items ≡ d.entries = ap (λ (x : Drafted). x.entries) c.self.view_is in
    let slice : c.as_slice-entries.result.now ≡ i.entries.items = c.as_slice-entries.ensures.value in
    let e = c.args.entry.now in
    let first = c.in-Some.ensures in
    let second = c.in-Some-find_entry.ensures.some in
    let y = c.in-Some-find_entry.other.now in
    let tests = known i.places i.entries.items d.entries c.as_slice-entries.result.now d.setting c.as_slice.result.now
    c.as_slice-2.result.now c.args.old.now c.args.new.now c.in-Some.cited c.in-Some-find_entry.place e y c.self.invariant.0.indexed held
    slice first c.as_slice.ensures second.0 second.1 c.as_slice-2.ensures in
    tests ∙ first-some (where_so (is_axiom e.assertion.kind) reason.NotATheorem) _ reason.NotATheorem
    (so (is_axiom e.assertion.kind) reason.NotATheorem (ap is_axiom c.in-Axiom.is))

pub index-requires : goal.index-requires
index-requires c =
    let i = c.self.inside in
    let slice : c.as_slice-entries.result.now ≡ i.entries.items = c.as_slice-entries.ensures.value in
    let lt = place_framed i.prelude i.entries.items c.as_slice-entries.result.now i.frames.items c.in-Some.cited c.in-Some.ensures.entry
    c.self.invariant.0.framed slice c.in-Some.ensures.at in
    search rules

pub index-requires-2 : goal.index-requires-2
index-requires-2 c =
    let i = c.self.inside in
    let slice : c.as_slice-entries.result.now ≡ i.entries.items = c.as_slice-entries.ensures.value in
    let lt = place_framed i.prelude i.entries.items c.as_slice-entries.result.now i.frames.items c.in-Some-find_entry.place
    c.in-Some-find_entry.other.now c.self.invariant.0.framed slice c.in-Some-find_entry.ensures.some.0 in
    search rules

pub returns-then-not-is_alike-clause-refused : goal.returns-then-not-is_alike-clause-refused
returns-then-not-is_alike-clause-refused c =
    let d = c.args.self.now in
    let i = c.self.inside in
    let held : i.entries.items ≡ d.entries = ap (λ (x : Drafted). x.entries) c.self.view_is in
    let slice : c.as_slice-entries.result.now ≡ i.entries.items = c.as_slice-entries.ensures.value in
    let e = c.args.entry.now in
    let first = c.in-Some.ensures in
    let second = c.in-Some-find_entry.ensures.some in
    let y = c.in-Some-find_entry.other.now in
    let tests = known i.places i.entries.items d.entries c.as_slice-entries.result.now d.setting c.as_slice.result.now
    c.as_slice-2.result.now c.args.old.now c.args.new.now c.in-Some.cited c.in-Some-find_entry.place e y c.self.invariant.0.indexed held
    slice first c.as_slice.ensures second.0 second.1 c.as_slice-2.ensures in
    let theorem = first-none (where_so (is_axiom e.assertion.kind) reason.NotATheorem) _
    (not_so (is_axiom e.assertion.kind) reason.NotATheorem (ap is_axiom c.in_default-kind.is)) in
    let alike = frames_alike d.setting.prelude i.prelude i.entries.items c.as_slice-entries.result.now i.frames.items c.in-Some.cited
    c.in-Some-find_entry.place first.entry y c.index.result.now c.index-2.result.now _ false
    (ap (λ (x : Drafted). x.setting.prelude) c.self.view_is) c.self.invariant.0.framed slice first.at second.0
    c.index.ensures c.index-2.ensures c.is_alike.ensures c.if-not-is_alike.true in
    let likeness = is_alike (frame d.setting.prelude first.entry.assertion) (frame d.setting.prelude y.assertion) in
    let unlike = so (not likeness) reason.NotAlike (ap not alike) in
    tests ∙ theorem ∙ first-some (where_so (not likeness) reason.NotAlike) _ reason.NotAlike unlike

pub returns-then-entry-other-clause-refused : goal.returns-then-entry-other-clause-refused
returns-then-entry-other-clause-refused c =
    let d = c.args.self.now in
    let i = c.self.inside in
    let held : i.entries.items ≡ d.entries = ap (λ (x : Drafted). x.entries) c.self.view_is in
    let slice : c.as_slice-entries.result.now ≡ i.entries.items = c.as_slice-entries.ensures.value in
    let e = c.args.entry.now in
    let first = c.in-Some.ensures in
    let second = c.in-Some-find_entry.ensures.some in
    let y = c.in-Some-find_entry.other.now in
    let tests = known i.places i.entries.items d.entries c.as_slice-entries.result.now d.setting c.as_slice.result.now
    c.as_slice-2.result.now c.args.old.now c.args.new.now c.in-Some.cited c.in-Some-find_entry.place e y c.self.invariant.0.indexed held
    slice first c.as_slice.ensures second.0 second.1 c.as_slice-2.ensures in
    let theorem = first-none (where_so (is_axiom e.assertion.kind) reason.NotATheorem) _
    (not_so (is_axiom e.assertion.kind) reason.NotATheorem (ap is_axiom c.in_default-kind.is)) in
    let alike = frames_alike d.setting.prelude i.prelude i.entries.items c.as_slice-entries.result.now i.frames.items c.in-Some.cited
    c.in-Some-find_entry.place first.entry y c.index.result.now c.index-2.result.now _ true
    (ap (λ (x : Drafted). x.setting.prelude) c.self.view_is) c.self.invariant.0.framed slice first.at second.0
    c.index.ensures c.index-2.ensures c.is_alike.ensures c.if-not-is_alike.false in
    let likeness = is_alike (frame d.setting.prelude first.entry.assertion) (frame d.setting.prelude y.assertion) in
    let above : (nat_le e.rank y.rank || false) ≡ true = ap (λ b. b || false) (le-leb e.rank y.rank c.if-entry-other.true) in
    tests ∙ theorem ∙ first-none (where_so (not likeness) reason.NotAlike) _ (not_so (not likeness) reason.NotAlike (ap not alike))
    ∙ first-some (where_so (nat_le e.rank y.rank || false) reason.CitedNotLower) [] reason.CitedNotLower
    (so (nat_le e.rank y.rank || false) reason.CitedNotLower above)

pub returns-clause-passed : goal.returns-clause-passed
returns-clause-passed c =
    let d = c.args.self.now in
    let i = c.self.inside in
    let held : i.entries.items ≡ d.entries = ap (λ (x : Drafted). x.entries) c.self.view_is in
    let slice : c.as_slice-entries.result.now ≡ i.entries.items = c.as_slice-entries.ensures.value in
    let e = c.args.entry.now in
    let first = c.in-Some.ensures in
    let second = c.in-Some-find_entry.ensures.some in
    let y = c.in-Some-find_entry.other.now in
    let tests = known i.places i.entries.items d.entries c.as_slice-entries.result.now d.setting c.as_slice.result.now
    c.as_slice-2.result.now c.args.old.now c.args.new.now c.in-Some.cited c.in-Some-find_entry.place e y c.self.invariant.0.indexed held
    slice first c.as_slice.ensures second.0 second.1 c.as_slice-2.ensures in
    let theorem = first-none (where_so (is_axiom e.assertion.kind) reason.NotATheorem) _
    (not_so (is_axiom e.assertion.kind) reason.NotATheorem (ap is_axiom c.in_default-kind.is)) in
    let alike = frames_alike d.setting.prelude i.prelude i.entries.items c.as_slice-entries.result.now i.frames.items c.in-Some.cited
    c.in-Some-find_entry.place first.entry y c.index.result.now c.index-2.result.now _ true
    (ap (λ (x : Drafted). x.setting.prelude) c.self.view_is) c.self.invariant.0.framed slice first.at second.0
    c.index.ensures c.index-2.ensures c.is_alike.ensures c.if-not-is_alike.false in
    let likeness = is_alike (frame d.setting.prelude first.entry.assertion) (frame d.setting.prelude y.assertion) in
    let below : (nat_le e.rank y.rank || false) ≡ false = ap (λ b. b || false) (lt-leb e.rank y.rank c.if-entry-other.false) in
    tests ∙ theorem ∙ first-none (where_so (not likeness) reason.NotAlike) _ (not_so (not likeness) reason.NotAlike (ap not alike))
    ∙ first-none (where_so (nat_le e.rank y.rank || false) reason.CitedNotLower) []
    (not_so (nat_le e.rank y.rank || false) reason.CitedNotLower below)
