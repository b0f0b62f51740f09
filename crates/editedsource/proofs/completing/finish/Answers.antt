-- What is left to show of `finish`.
use Rattle.std.proofs.Common.{Option, ◌≡◌, ◌∙◌, ℕ, map, inl, inr, ap, subst, sym, Vec, Global}
use Rattle.std.specs.Prelude.{OnOk, IfOk, IfErr}
use Rattle.std.specs.Option.{option_map, unwrap_or}
use Rattle.std.proofs.lemmas.Result.{err_from_is_err_and}
use Rattle.source.specs.Sources.{DeclaresText}
use Rattle.source.specs.Views.{seen_pairs, seen_words}
use Rattle.checking.specs.Checks.{Bytes}
use Rattle.commentwords.specs.Spoken.{spoken_in}
use Rattle.givetext.specs.Drafts.{IsDraft}
use Rattle.givetext.specs.Parts.{IsEdited}
use Rattle.pasting.specs.Views.{seen_quotation}
use Rattle.sourceediting.specs.Following.{Following}
use Rattle.sourceediting.specs.Views.{seen_following}
use Rattle.verifytext.specs.Verdicts.{IsVerifiedText}
use Rattle.dressing.specs.Dressed.{IsDressed}
use Rattle.editscripts.specs.Refusals.{IsToldBy}
use Rattle.mentions.specs.Lines.{mention_lines}
use Rattle.mentions.specs.Vanished.{vanished}
use Rattle.editedsource.specs.Gone.{lost, spoken_line}
use Rattle.editedsource.specs.Refusals.{IsFaultyThenLine, IsStoppedLine, IsStoppedOrFaulty}
use Rattle.editedsource.proofs.Unwrapped.{lent, unwrapped}
use Rattle.editscripts.proofs.Lines.{told_more}
use Rattle.editedsource.proofs.completing.finish.Goals as goal

-- the bytes of another text, if there is one
abbrev or_this : Option (Vec ℕ Global) → Bytes → Bytes
or_this made text = unwrap_or (option_map (λ (t : Vec ℕ Global). t.items) made) text

pub verify_dressed-requires-after_bounds : goal.verify_dressed-requires-after_bounds
verify_dressed-requires-after_bounds g c =
    let new = c.in_ok-new.ensures.declares in
    λ _ _. c.sources_are_whole.ensures new.statements c.in_ok-new.new.stand.scope new.declared

pub returns-clause-finished : goal.returns-clause-finished
returns-clause-finished g c choice are =
    let path = c.args.edit.now.path.now in
    let source = c.args.edit.now.library.source.now in
    let old = c.args.old.stand.scope in
    let taken = c.args.edit.now.library.taken.now in
    let run = c.args.edit.now.library.replayed.now in
    let qs = map seen_quotation c.args.edit.now.given.quotations.now in
    let ds = seen_pairs c.args.edit.now.given.descriptions.now in
    let draft = c.in_ok-draft.draft in
    let text = draft.text.items in
    let read : c.as_slice-edits.result.now ≡ text = c.as_slice-edits.ensures.value in
    let declares = subst (λ (bytes : Bytes). DeclaresText bytes c.in_ok-new.new.stand.scope) (sym read) c.in_ok-new.ensures.declares in
    let f = seen_following draft.following in
    let is = subst (λ r. IfOk r (IsDraft source old choice taken run.entries run.edited)) c.in_ok-draft.was
    (c.draft_of.ensures.drafted choice are) in
    let edited = subst (λ r. OnOk r (IsEdited source old choice taken run.entries run.edited text)) c.in_ok-look_at.was
    (c.look_at.ensures.edited choice taken is) in
    let same : f ≡ edited.followed = is.followed.follows ∙ sym edited.follows in
    let shown = or_this c.in_ok-dressed.dressed text in
    let dressed : IsDressed qs ds edited.followed text shown =
    subst (λ (f : Following). IsDressed qs ds f text shown) same
    (subst (λ (bytes : Bytes). IsDressed qs ds f bytes (or_this c.in_ok-dressed.dressed bytes)) read
    c.in_ok-dressed.ensures) in
    let out = c.unwrap_or-out.result.items in
    let printed : shown ≡ out =
    unwrapped c.in_ok-dressed.dressed draft.text ∙ sym (ap (λ (v : Vec ℕ Global). v.items) c.unwrap_or-out.ensures) in
    record {
      edits = text;
      is_edited = edited;
      dressed = subst (IsDressed qs ds edited.followed text) printed dressed;
      much = c.in_ok-verify_dressed.field-0;
      verifies =
          subst (λ (bytes : Bytes). IsVerifiedText bytes c.in_ok-verify_dressed.field-0)
          (lent c.as_ref.result c.in_ok-dressed.dressed c.as_slice-edits.result.now c.as_ref.ensures.value
          ∙ (ap (or_this c.in_ok-dressed.dressed) read ∙ printed))
          (c.in_ok-verify_dressed.ensures.verified declares);
      spoken =
          c.in_ok-spoken.ensures
          ∙ ap (λ (bytes : Bytes). map (spoken_line path bytes) (spoken_in (lost f) bytes)) c.as_slice.ensures.value
          ∙ ap (λ (f : Following). map (spoken_line path out) (spoken_in (lost f) out)) same;
      mentions =
          c.in_ok-mentions.ensures
          ∙ ap (λ (bytes : Bytes). mention_lines bytes (seen_words c.as_slice-2.result.now)) c.as_slice-3.ensures.value
          ∙ ap (λ ws. mention_lines out (seen_words ws)) c.as_slice-2.ensures.value
          ∙ ap (mention_lines out) c.in_ok-vanished.ensures
          ∙ ap (λ (f : Following). mention_lines out (vanished old f)) same;
    }

pub returns-in_err-new-clause-refused : goal.returns-in_err-new-clause-refused
returns-in_err-new-clause-refused g c choice are =
    let path = c.args.edit.now.path.now in
    let source = c.args.edit.now.library.source.now in
    let old = c.args.old.stand.scope in
    let taken = c.args.edit.now.library.taken.now in
    let run = c.args.edit.now.library.replayed.now in
    let qs = map seen_quotation c.args.edit.now.given.quotations.now in
    let ds = seen_pairs c.args.edit.now.given.descriptions.now in
    let is = subst (λ r. IfOk r (IsDraft source old choice taken run.entries run.edited)) c.in_ok-draft.was
    (c.draft_of.ensures.drafted choice are) in
    let p = err_from_is_err_and c.from_residual-in_err-new.result c.from_residual-in_err-new.ensures.1 in
    rw (p.1, p.2) (told_more
    (IsStoppedLine path source old choice taken run.entries run.edited)
    (IsStoppedOrFaulty path source old choice taken run.entries run.edited qs ds)
    (λ line h. inl h) c.in_err-new.field-0.0
    (subst (λ r. IfErr r (IsToldBy (IsStoppedLine path source old choice taken run.entries run.edited))) c.in_err-new.was
    (c.read_new.ensures.refused source choice taken run.entries run.edited is)))

pub returns-in_err-verify_dressed-clause-refused : goal.returns-in_err-verify_dressed-clause-refused
returns-in_err-verify_dressed-clause-refused g c choice are =
    let path = c.args.edit.now.path.now in
    let source = c.args.edit.now.library.source.now in
    let old = c.args.old.stand.scope in
    let taken = c.args.edit.now.library.taken.now in
    let run = c.args.edit.now.library.replayed.now in
    let qs = map seen_quotation c.args.edit.now.given.quotations.now in
    let ds = seen_pairs c.args.edit.now.given.descriptions.now in
    let draft = c.in_ok-draft.draft in
    let text = draft.text.items in
    let read : c.as_slice-edits.result.now ≡ text = c.as_slice-edits.ensures.value in
    let declares = subst (λ (bytes : Bytes). DeclaresText bytes c.in_ok-new.new.stand.scope) (sym read) c.in_ok-new.ensures.declares in
    let f = seen_following draft.following in
    let is = subst (λ r. IfOk r (IsDraft source old choice taken run.entries run.edited)) c.in_ok-draft.was
    (c.draft_of.ensures.drafted choice are) in
    let edited = subst (λ r. OnOk r (IsEdited source old choice taken run.entries run.edited text)) c.in_ok-look_at.was
    (c.look_at.ensures.edited choice taken is) in
    let same : f ≡ edited.followed = is.followed.follows ∙ sym edited.follows in
    let shown = or_this c.in_ok-dressed.dressed text in
    let dressed : IsDressed qs ds edited.followed text shown =
    subst (λ (f : Following). IsDressed qs ds f text shown) same
    (subst (λ (bytes : Bytes). IsDressed qs ds f bytes (or_this c.in_ok-dressed.dressed bytes)) read
    c.in_ok-dressed.ensures) in
    let p = err_from_is_err_and c.from_residual-in_err-verify_dressed.result c.from_residual-in_err-verify_dressed.ensures.1 in
    rw (p.1, p.2) (told_more (IsFaultyThenLine path shown)
    (IsStoppedOrFaulty path source old choice taken run.entries run.edited qs ds)
    (λ line h. inr (text, shown, edited, dressed, h))
    c.in_err-verify_dressed.field-0.0
    (subst (λ (bytes : Bytes). IsToldBy (IsFaultyThenLine path bytes) c.in_err-verify_dressed.field-0.0)
    (lent c.as_ref.result c.in_ok-dressed.dressed c.as_slice-edits.result.now c.as_ref.ensures.value
    ∙ ap (or_this c.in_ok-dressed.dressed) read)
    (c.in_err-verify_dressed.ensures.refused declares)))
