-- What is left to show of `take_placed`: a round that ends with too long a proof flags one more theorem.
use Rattle.std.proofs.Common.{rules, ◌≡◌, ◌∙◌, ◌<◌, true, length, set, refl, sym, ap, subst, List, Bool}
use mathlib.Core.Bool.{not}
use Rattle.std.specs.Prelude.{filter}
use Rattle.std.proofs.lemmas.List.{with_items_is}
use Rattle.source.specs.Flags.{kept}
use Rattle.sites.specs.Sites.{AreSites}
use Rattle.gathering.specs.Placed.{map_of, tables_of}
use Rattle.intake.specs.Parts.{AreChosen, IsLibraryRound}
use Rattle.intake.proofs.Long.{chosen_first, as_many, found_in, label_at, not_flagged, chosen_next, fewer_left}
use Rattle.intake.proofs.rounds.take_placed.Goals as goal

pub loop-long-init : goal.loop-long-init
loop-long-init g c =
    let s = g.D.Declared.scope c.args.declared.now in
    let t = c.args.placed.now.sites.now in
    let names = c.args.placed.now.names.now in
    record {
      frames = c.requires.frames;
      known =
          λ w is.
          chosen_first s w c.args.selection.now (map_of t names) (tables_of t names) c.as_slice-chosen.result.now
          c.as_slice-front.result.now c.in_ok-long.long.items _ is c.as_slice-chosen.ensures.value c.as_slice-front.ensures.value
          (c.in_ok-long.ensures.items_if_clones_equal (λ y e. e)) refl;
    }

pub take_round-requires-sync-typeof-rt : goal.take_round-requires-sync-typeof-rt
take_round-requires-sync-typeof-rt g c κs within =
    let s = g.D.Declared.scope c.args.declared.now in
    let t = c.args.placed.now.sites.now in
    let names = c.args.placed.now.names.now in
    let chosen = c.as_slice-chosen.result.now in
    let wished = c.requires.wished in
    let many = as_many s wished.0 (map_of t names) (tables_of t names) chosen c.as_slice-front.result.now c.loop-long.long.items
    (c.loop-long.invariant.known wished.0 wished.1) in
    let sites : AreSites s (kept chosen s.assertions) t =
    subst (λ (fs : List Bool). AreSites s (kept fs s.assertions) t) (sym c.as_slice-chosen.ensures.value) c.requires.sites in
    let r = c.requires in (
      search rules,
      (
        (refl, tt),
        (
          r.whole,
          (
            c.loop-long.invariant.frames,
            (many.0, (many.1, (ap length c.deref.ensures.value ∙ many.2, (sites, (r.many, r.named))))),
          ),
        ),
      ),
    )

pub returns-in-Library-clause-taken : goal.returns-in-Library-clause-taken
returns-in-Library-clause-taken g c =
    let s = g.D.Declared.scope c.args.declared.now in
    let m = map_of c.args.placed.now.sites.now c.args.placed.now.names.now in
    let tables = tables_of c.args.placed.now.sites.now c.args.placed.now.names.now in
    let chosen = c.as_slice-chosen.result.now in
    let front = c.as_slice-front.result.now in
    λ w is.
    subst (IsLibraryRound s w) c.in-Library.is
    (c.in_ok-taken.ensures.taken w
    (subst (λ (fs : List Bool). AreChosen s w m tables chosen front fs) (sym c.deref.ensures.value) (c.loop-long.invariant.known w is)))

pub set_flag-requires : goal.set_flag-requires
set_flag-requires g c κs =
    let s = g.D.Declared.scope c.args.declared.now in
    let t = c.args.placed.now.sites.now in
    let m = map_of t c.args.placed.now.names.now in
    let tables = tables_of t c.args.placed.now.names.now in
    let chosen = c.as_slice-chosen.result.now in
    let front = c.as_slice-front.result.now in
    let long = c.loop-long.long.items in
    let sites : AreSites s (kept chosen s.assertions) t =
    subst (λ (fs : List Bool). AreSites s (kept fs s.assertions) t) (sym c.as_slice-chosen.ensures.value) c.requires.sites in
    let wished = c.requires.wished in
    let known = c.loop-long.invariant.known wished.0 wished.1 in
    let many = as_many s wished.0 m tables chosen front long known in
    let found = found_in s m tables chosen front c.deref.result.now long c.in_ok-taken.field-0 c.in-Long.place c.deref.ensures.value
    c.in-Long.is c.in_ok-taken.ensures.long in (
      (refl, tt),
      (
        ap length c.deref_mut.ensures.value ∙ many.2,
        label_at s wished.0 t m tables chosen front long sites known c.in-Long.place found,
      ),
    )

pub loop-long-smaller : goal.loop-long-smaller
loop-long-smaller g c =
    let s = g.D.Declared.scope c.args.declared.now in
    let t = c.args.placed.now.sites.now in
    let m = map_of t c.args.placed.now.names.now in
    let tables = tables_of t c.args.placed.now.names.now in
    let chosen = c.as_slice-chosen.result.now in
    let front = c.as_slice-front.result.now in
    let long = c.loop-long.long.items in
    let sites : AreSites s (kept chosen s.assertions) t =
    subst (λ (fs : List Bool). AreSites s (kept fs s.assertions) t) (sym c.as_slice-chosen.ensures.value) c.requires.sites in
    let wished = c.requires.wished in
    let known = c.loop-long.invariant.known wished.0 wished.1 in
    let found = found_in s m tables chosen front c.deref.result.now long c.in_ok-taken.field-0 c.in-Long.place c.deref.ensures.value
    c.in-Long.is c.in_ok-taken.ensures.long in
    let e = c.set_flag.ensures in
    let now = with_items_is c.loop-long.long c.set_flag.new.flags (c.set_flag.auto.flags ∙ c.deref_mut.ensures.len) in
    let is : c.set_flag.new.flags ≡ set long e.1 true = e.4 ∙ ap (λ fs. set fs e.1 true) c.deref_mut.ensures.value in
    subst (λ (fs : List Bool). length (filter not fs) < length (filter not long)) (sym (now ∙ is))
    (fewer_left long e.1
    (not_flagged s wished.0 t m tables chosen front long sites known c.in-Long.place found e.0 e.1 e.2 e.3))

pub loop-long-preserved : goal.loop-long-preserved
loop-long-preserved g c =
    let s = g.D.Declared.scope c.args.declared.now in
    let t = c.args.placed.now.sites.now in
    let m = map_of t c.args.placed.now.names.now in
    let tables = tables_of t c.args.placed.now.names.now in
    let chosen = c.as_slice-chosen.result.now in
    let front = c.as_slice-front.result.now in
    let long = c.loop-long.long.items in
    let sites : AreSites s (kept chosen s.assertions) t =
    subst (λ (fs : List Bool). AreSites s (kept fs s.assertions) t) (sym c.as_slice-chosen.ensures.value) c.requires.sites in
    let found = found_in s m tables chosen front c.deref.result.now long c.in_ok-taken.field-0 c.in-Long.place c.deref.ensures.value
    c.in-Long.is c.in_ok-taken.ensures.long in
    let e = c.set_flag.ensures in
    let now = with_items_is c.loop-long.long c.set_flag.new.flags (c.set_flag.auto.flags ∙ c.deref_mut.ensures.len) in
    let is : c.set_flag.new.flags ≡ set long e.1 true = e.4 ∙ ap (λ fs. set fs e.1 true) c.deref_mut.ensures.value in
    record {
      frames = c.in_ok-taken.ensures.frames;
      known =
          λ w wish.
          subst (λ (fs : List Bool). AreChosen s w m tables chosen front fs) (sym (now ∙ is))
          (chosen_next s w t m tables chosen front long sites (c.loop-long.invariant.known w wish) c.in-Long.place found e.0 e.1 e.2 e.3
          c.requires.whole);
    }
