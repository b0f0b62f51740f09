-- What is left to show of `look_at`.
use Rattle.std.proofs.Common.{◌∙◌, List, Bool, map, ap, length, refl, rules, subst, sym}
use Rattle.sourceediting.specs.Axioms.{axioms_then}
use Rattle.sourceediting.specs.Views.{seen_following, seen_living}
use Rattle.sourceediting.specs.Following.{label_then}
use Rattle.sourceediting.specs.declared.following.Followed.{Followed as Kept}
use Rattle.givetext.specs.Drafts.{known_in}
use Rattle.mmtext.specs.Words.{Word}
use Rattle.source.specs.Views.{seen_words}
use Rattle.std.specs.Prelude.{IfErr}
use Rattle.choosing.specs.declared.wish.Wish.TheVariants.{These}
use Rattle.secondlook.specs.Differing.{IsUnlike}
use Rattle.secondlook.specs.Looked.{IsLookedAt}
use Rattle.givetext.proofs.looking.look_at.Goals as goal

pub look_again-requires-sync-typeof-rt : goal.look_again-requires-sync-typeof-rt
look_again-requires-sync-typeof-rt g c κs within =
    let d = c.requires.declares in (
      search rules,
      (
        (refl, tt),
        (
          ap length c.as_slice-own.ensures.value ∙ c.requires.own,
          c.sources_are_whole.ensures d.statements c.args.new.now.stand.scope d.declared,
        ),
      ),
    )

pub returns-in-Ok-clause-looked : goal.returns-in-Ok-clause-looked
returns-in-Ok-clause-looked g c =
    let d = c.args.draft.now in
    let old = c.args.old.now.stand.scope in
    let out = d.text.items in
    let edited = c.args.edited.now in
    let looked = c.in-Ok.ensures.looked out c.requires.declares in
    subst (λ (fs : List Bool). IsLookedAt old out d.changes fs (map label_then (seen_following d.following).living) edited)
    c.as_slice-own.ensures.value
    (subst (λ (ws : List Word). IsLookedAt old out d.changes c.as_slice-own.result.now ws edited)
    (ap seen_words c.as_slice-2.ensures.value ∙ c.in_ok-then.ensures) looked)

pub returns-clause-refused : goal.returns-clause-refused
returns-clause-refused g c = λ taken entries source written.
    let d = c.args.draft.now in
    let edited = c.args.edited.now in
    let old = c.args.old.now.stand.scope in
    let k = known_in old taken entries edited d in
    let w = These c.as_slice-2.result c.as_slice-3.result in
    let unlike = subst (λ r. IfErr r (IsUnlike old d.text.items w d.changes c.as_slice-own.result.now edited)) c.in-Err.is
    (c.look_again.ensures.unlike d.text.items c.requires.declares) in
    c.in_ok-unprinted-in-Err.ensures k source refl (sym c.as_slice-own.ensures.value) (record {
      out = d.text.items;
      written = written;
      then = c.as_slice-2.result;
      labels = ap seen_words c.as_slice-2.ensures.value ∙ c.in_ok-then.ensures;
      axioms = c.as_slice-3.result;
      axioms_are =
          ap seen_words c.as_slice-3.ensures.value
          ∙ c.in_ok-axioms.ensures
          ∙ ap (λ (fs : List Kept). axioms_then (map (λ r. r.assertion) edited.entries) (seen_living fs)) c.as_slice.ensures.value;
      unlike =
          subst (λ (fs : List Bool). IsUnlike old d.text.items w d.changes fs edited c.in-Err.why) c.as_slice-own.ensures.value unlike;
    })
