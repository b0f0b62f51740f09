-- What is left to show of `begin`.
use Rattle.std.proofs.Common.{◌≡◌, ◌∙◌, [], rules, Bool, List, length, map, inl, inr, refl, sym, ap, subst, Vec, Global}
use Rattle.std.proofs.lemmas.List.{length-map}
use Rattle.std.specs.Prelude.{All}
use Rattle.std.proofs.lemmas.Result.{err_from_is_err_and}
use Rattle.mmtext.specs.declared.token.Token.{Token as CodeToken}
use Rattle.mmsyntax.specs.Tables.{Tables}
use Rattle.library.specs.Fitting.{CommandFits}
use Rattle.checking.specs.Checks.{AreScripts}
use Rattle.expanding.specs.declared.laid.Laid.{Laid}
use Rattle.editscripts.specs.Expanded.{ArePasted, AreRanked, texts_of}
use Rattle.editscripts.specs.Expanded.{IsSpreadOf}
use Rattle.editscripts.specs.Encouraged.{AreAllowed}
use Rattle.editscripts.specs.Faults.{IsFaultsText}
use Rattle.editscripts.specs.Refusals.{IsUnlaidBy, IsUnreadBy}
use Rattle.pasting.specs.Views.{IsNarrow}
use Rattle.editopening.proofs.Narrow.{narrow_taken}
use Rattle.editopening.specs.Opening.{Begun, stand_ins_of}
use Rattle.editopening.specs.Refusals.{IsUnbegunLine, IsUnopenedBy, IsUntakenBy}
use Rattle.expanding.specs.Views.{seen_scripts}
use Rattle.editscripts.specs.Views.{seen_texts, AreLaid}
use Rattle.editscripts.proofs.Expanding.{begun_at}
use Rattle.editscripts.proofs.Lines.{told_more}
use Rattle.editopening.proofs.beginning.begin.Goals as goal

pub returns-in_err-spread-clause-refused : goal.returns-in_err-spread-clause-refused
returns-in_err-spread-clause-refused g c =
    let s = g.D.Declared.scope c.args.declared.now in
    let texts = seen_texts c.args.texts.now in
    let source = c.args.source.now in
    let paths = map (λ p. p.now) c.args.order.paths.now in
    let path = c.args.order.path.now in
    let force = c.args.order.force in
    let p = err_from_is_err_and c.from_residual.result c.from_residual.ensures.1 in
    rw (p.1, p.2) (told_more
    (IsFaultsText paths source s texts force) (IsUnbegunLine path paths source s texts force) (λ line h. inl h)
    c.in_err-spread.field-0.0 c.in_err-spread.ensures.refused)

pub returns-in_err-taken-clause-refused : goal.returns-in_err-taken-clause-refused
returns-in_err-taken-clause-refused g c =
    let s = g.D.Declared.scope c.args.declared.now in
    let texts = seen_texts c.args.texts.now in
    let source = c.args.source.now in
    let paths = map (λ p. p.now) c.args.order.paths.now in
    let path = c.args.order.path.now in
    let force = c.args.order.force in
    let scripts = c.as_slice-spread.result.now in
    let spread =
    subst (λ (ts : List (Vec CodeToken Global)). IsSpreadOf s texts (seen_scripts ts)) (sym c.as_slice-spread.ensures.value)
    c.in_ok-spread.ensures.spread in
    let allowed =
    subst (λ (ts : List (Vec CodeToken Global)). AreAllowed c.args.source.now s c.args.order.force (seen_scripts ts))
    (sym c.as_slice-spread.ensures.value) c.in_ok-spread.ensures.allowed in
    let p = err_from_is_err_and c.from_residual-in_err-taken.result c.from_residual-in_err-taken.ensures.1 in
    rw (p.1, p.2) (told_more
    (IsUntakenBy path source s (seen_scripts scripts)) (IsUnbegunLine path paths source s texts force)
    (λ line h. inr (inl (record {
      spread = seen_scripts scripts;
      of_source = spread;
      allowed = allowed;
      cause = h;
    })))
    c.in_err-taken.field-0.0 c.in_err-taken.ensures.refused)

pub lay_all-requires : goal.lay_all-requires
lay_all-requires g c =
    let s = g.D.Declared.scope c.args.declared.now in
    let library = c.in_ok-taken.ensures.taken.library in
    let flags = c.in_ok-taken.taken.chosen.items in
    λ _. (
      (refl, (refl, tt)),
      (
        c.requires.whole,
        (
          subst (λ (fs : List Bool). length fs ≡ length s.assertions) (sym c.as_slice-flags.ensures.value)
              (ap length (sym library.chosen_are) ∙ length-map s.assertions _),
          subst (λ (fs : List Bool). IsNarrow s fs) (sym c.as_slice-flags.ensures.value)
              (narrow_taken s c.in_ok-taken.ensures.taken.wish c.in_ok-taken.taken library c.assertions-spelled.ensures.sound),
        ),
      ),
    )

pub returns-in_err-laid-clause-refused : goal.returns-in_err-laid-clause-refused
returns-in_err-laid-clause-refused g c =
    let s = g.D.Declared.scope c.args.declared.now in
    let texts = seen_texts c.args.texts.now in
    let source = c.args.source.now in
    let paths = map (λ p. p.now) c.args.order.paths.now in
    let path = c.args.order.path.now in
    let scripts = c.as_slice-spread.result.now in
    let db = c.in_ok-taken.taken.database in
    let spread =
    subst (λ (ts : List (Vec CodeToken Global)). IsSpreadOf s texts (seen_scripts ts)) (sym c.as_slice-spread.ensures.value)
    c.in_ok-spread.ensures.spread in
    let allowed =
    subst (λ (ts : List (Vec CodeToken Global)). AreAllowed c.args.source.now s c.args.order.force (seen_scripts ts))
    (sym c.as_slice-spread.ensures.value) c.in_ok-spread.ensures.allowed in
    let p = err_from_is_err_and c.from_residual-in_err-laid.result c.from_residual-in_err-laid.ensures.1 in
    rw (p.1, p.2) (told_more
    (IsUnlaidBy paths s texts c.as_slice-flags.result.now db (seen_scripts scripts))
    (IsUnbegunLine path paths source s texts c.args.order.force)
    (λ line h. inr (inr (inl (record {
      over = record {
        spread = seen_scripts scripts;
        of_source = spread;
        taken = c.in_ok-taken.taken;
        for_scripts = c.in_ok-taken.ensures.taken;
      };
      allowed = allowed;
      cause = subst (λ (flags : List Bool). IsUnlaidBy paths s texts flags db (seen_scripts scripts) line) c.as_slice-flags.ensures.value h;
    })))) c.in_err-laid.field-0.0 c.in_err-laid.ensures.refused)

pub returns-in_err-scripts-clause-refused : goal.returns-in_err-scripts-clause-refused
returns-in_err-scripts-clause-refused g c =
    let s = g.D.Declared.scope c.args.declared.now in
    let texts = seen_texts c.args.texts.now in
    let source = c.args.source.now in
    let paths = map (λ p. p.now) c.args.order.paths.now in
    let path = c.args.order.path.now in
    let scripts = c.as_slice-spread.result.now in
    let db = c.in_ok-taken.taken.database in
    let spread =
    subst (λ (ts : List (Vec CodeToken Global)). IsSpreadOf s texts (seen_scripts ts)) (sym c.as_slice-spread.ensures.value)
    c.in_ok-spread.ensures.spread in
    let allowed =
    subst (λ (ts : List (Vec CodeToken Global)). AreAllowed c.args.source.now s c.args.order.force (seen_scripts ts))
    (sym c.as_slice-spread.ensures.value) c.in_ok-spread.ensures.allowed in
    let made = c.in_ok-laid.ensures.laid in
    let outs = made.1 in
    let laid = subst (λ (ls : List Laid). AreLaid outs ls) (sym c.as_slice.ensures.value) made.4 in
    let p = err_from_is_err_and c.from_residual-in_err-scripts.result c.from_residual-in_err-scripts.ensures.1 in
    rw (p.1, p.2) (told_more
    (IsUnreadBy paths c.prelude.result.now texts outs) (IsUnbegunLine path paths source s texts c.args.order.force)
    (λ line h. inr (inr (inr (inl (record {
      with_ranks = record {
        over = record {
          spread = seen_scripts scripts;
          of_source = spread;
          taken = c.in_ok-taken.taken;
          for_scripts = c.in_ok-taken.ensures.taken;
        };
        pasted = made.0;
        are_pasted =
            subst (λ (flags : List Bool). ArePasted s flags db (seen_scripts scripts) made.0) c.as_slice-flags.ensures.value made.3;
        ranked = outs;
        gaps = made.2;
        are_ranked = subst (λ (flags : List Bool). AreRanked s flags [] made.0 outs made.2) c.as_slice-flags.ensures.value made.5;
      };
      allowed = allowed;
      cause = subst (λ (t : Tables). IsUnreadBy paths t texts outs line) c.prelude.ensures h;
    }))))) c.in_err-scripts.field-0.0 (c.in_err-scripts.ensures.refused outs laid))

pub open_for-requires : goal.open_for-requires
open_for-requires g c =
    let s = g.D.Declared.scope c.args.declared.now in
    let library = c.in_ok-taken.ensures.taken.library in
    let ordered = c.in_ok-scripts.scripts.items in
    λ _. (
      search rules,
      (
        (refl, tt),
        (
          ap length (sym library.chosen_are) ∙ length-map s.assertions _,
          (
            library.checks,
            subst (λ (t : Tables). All (All (All (CommandFits t))) ordered) c.prelude.ensures c.in_ok-scripts.ensures.fit,
          ),
        ),
      ),
    )

pub returns-in_err-opened-clause-refused : goal.returns-in_err-opened-clause-refused
returns-in_err-opened-clause-refused g c =
    let s = g.D.Declared.scope c.args.declared.now in
    let texts = seen_texts c.args.texts.now in
    let source = c.args.source.now in
    let paths = map (λ p. p.now) c.args.order.paths.now in
    let path = c.args.order.path.now in
    let scripts = c.as_slice-spread.result.now in
    let db = c.in_ok-taken.taken.database in
    let library = c.in_ok-taken.ensures.taken.library in
    let spread =
    subst (λ (ts : List (Vec CodeToken Global)). IsSpreadOf s texts (seen_scripts ts)) (sym c.as_slice-spread.ensures.value)
    c.in_ok-spread.ensures.spread in
    let allowed =
    subst (λ (ts : List (Vec CodeToken Global)). AreAllowed c.args.source.now s c.args.order.force (seen_scripts ts))
    (sym c.as_slice-spread.ensures.value) c.in_ok-spread.ensures.allowed in
    let made = c.in_ok-laid.ensures.laid in
    let outs = made.1 in
    let ordered = c.in_ok-scripts.scripts.items in
    let laid = subst (λ (ls : List Laid). AreLaid outs ls) (sym c.as_slice.ensures.value) made.4 in
    let begun : Begun source texts = record {
      old = s;
      declares = c.requires.declares;
      with_ranks = record {
        over = record {
          spread = seen_scripts scripts;
          of_source = spread;
          taken = c.in_ok-taken.taken;
          for_scripts = c.in_ok-taken.ensures.taken;
        };
        pasted = made.0;
        are_pasted =
            subst (λ (flags : List Bool). ArePasted s flags db (seen_scripts scripts) made.0) c.as_slice-flags.ensures.value made.3;
        ranked = outs;
        gaps = made.2;
        are_ranked = subst (λ (flags : List Bool). AreRanked s flags [] made.0 outs made.2) c.as_slice-flags.ensures.value made.5;
      };
      read = ordered;
      ordered = subst (λ (t : Tables). AreScripts t (texts_of outs) ordered) c.prelude.ensures (c.in_ok-scripts.ensures.scripts outs laid);
    } in
    let p = err_from_is_err_and c.from_residual-in_err-opened.result c.from_residual-in_err-opened.ensures.1 in
    rw (p.1, p.2) (told_more
    (IsUnopenedBy path db (stand_ins_of begun)) (IsUnbegunLine path paths source s texts c.args.order.force)
    (λ line h. inr (inr (inr (inr (record {
      begun = begun;
      allowed = allowed;
      cause = h;
    })))))
    c.in_err-opened.field-0.0 (c.in_err-opened.ensures.refused library.taken.choice library.chosen_are))

pub returns-clause-begun : goal.returns-clause-begun
returns-clause-begun g c =
    let s = g.D.Declared.scope c.args.declared.now in
    let texts = seen_texts c.args.texts.now in
    let scripts = c.as_slice-spread.result.now in
    let db = c.in_ok-taken.taken.database in
    let library = c.in_ok-taken.ensures.taken.library in
    let made = c.in_ok-laid.ensures.laid in
    let outs = made.1 in
    let ordered = c.in_ok-scripts.scripts.items in
    let laid = subst (λ (ls : List Laid). AreLaid outs ls) (sym c.as_slice.ensures.value) made.4 in
    record {
      spread = seen_scripts scripts;
      of_source =
          subst (λ (ts : List (Vec CodeToken Global)). IsSpreadOf s texts (seen_scripts ts)) (sym c.as_slice-spread.ensures.value)
          c.in_ok-spread.ensures.spread;
      allowed =
          subst (λ (ts : List (Vec CodeToken Global)). AreAllowed c.args.source.now s c.args.order.force (seen_scripts ts))
          (sym c.as_slice-spread.ensures.value) c.in_ok-spread.ensures.allowed;
      for_scripts = c.in_ok-taken.ensures.taken;
      pasted = made.0;
      are_pasted = subst (λ (flags : List Bool). ArePasted s flags db (seen_scripts scripts) made.0) c.as_slice-flags.ensures.value made.3;
      ranked = outs;
      gaps = made.2;
      are_ranked = subst (λ (flags : List Bool). AreRanked s flags [] made.0 outs made.2) c.as_slice-flags.ensures.value made.5;
      beginnings = begun_at outs c.in_ok-laid.laid.items made.4;
      read = ordered;
      ordered = subst (λ (t : Tables). AreScripts t (texts_of outs) ordered) c.prelude.ensures (c.in_ok-scripts.ensures.scripts outs laid);
      opened = c.in_ok-opened.ensures.opened library.taken.choice library.chosen_are;
      checks = c.in_ok-opened.ensures.checks;
      quotes = c.in_ok-quotes.ensures;
      descriptive = c.in_ok-descriptions.ensures;
      fit = c.in_ok-opened.ensures.fit;
    }
