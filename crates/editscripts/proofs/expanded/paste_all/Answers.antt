-- What is left to show of `paste_all`.
use Rattle.std.proofs.Common.{◌≡◌, ◌≤◌, ◌+◌, ◌++◌, ◌∷◌, [], ℕ, length, map, take, refl, ap, subst, sym, Vec, Global}
use Rattle.std.specs.Prelude.{slice_index_or}
use Rattle.std.proofs.lemmas.List.{length-map, take_all}
use Rattle.mmsyntax.specs.Tables.{Tables}
use Rattle.taking.specs.Names.{Map}
use Rattle.std.specs.List.{AllZip}
use Rattle.std.proofs.lemmas.Option.{slice_get_read}
use Rattle.std.proofs.lemmas.Slice.Zip.{all_zipped_more}
use Rattle.mmtext.specs.Views.{seen}
use Rattle.mmtext.specs.declared.token.Token.{Token as CodeToken}
use Rattle.pasting.specs.Places.{places_in}
use Rattle.pasting.specs.Pasted.{AreAdditions, IsPasted}
use Rattle.pasting.specs.Views.{AreKnown, IsPaster, IsUnpasted}
use Rattle.pasting.proofs.Pasting.{places_are}
use Rattle.checking.specs.Checks.{Bytes}
use Rattle.editscripts.specs.Expanded.{ArePastedWith}
use Rattle.expanding.specs.Views.{IsLaid, seen_scripts}
use Rattle.editscripts.specs.Refusals.{IsUnpastedBy, IsPasteFaultLine}
use Rattle.editscripts.specs.Views.{seen_texts}
use Rattle.editscripts.proofs.Expanding.{get_seen, zipped_more_at}
use Rattle.editscripts.proofs.Lines.{told_more}
use Rattle.editscripts.proofs.expanded.paste_all.Goals as goal

pub returns-in-Err-clause-refused : goal.returns-in-Err-clause-refused
returns-in-Err-clause-refused g c =
    let s = g.D.Declared.scope c.args.declared.now in
    let flags = c.args.flags.now in
    let db = c.args.database.now in
    let scripts = c.args.scripts.now in
    let paths = map (λ p. p.now) c.args.paths.now in
    let k = c.loop-script.script in
    let words = c.index-scripts-script.result in
    let at = slice_get_read scripts (length scripts) k words refl c.loop-script-test.true c.index-scripts-script.is in
    let kept = c.loop-script.invariant in
    let why = c.in-Err.why in
    let m = places_in s flags db in
    let xs = kept.2 in
    let unpasted = subst (λ ts. IsUnpasted m db.prelude s xs (map seen ts) why) c.as_slice.ensures.value
    (c.in-Err.ensures.faulty flags db xs kept.6 kept.5) in
    let texts = seen_texts c.args.texts.now in
    let ts = map seen words.items in
    told_more (IsPasteFaultLine c.path_at-path.result.now c.text_at-text.result.now m db.prelude s xs ts)
    (IsUnpastedBy paths s texts flags db (seen_scripts scripts))
    (λ line h. record {
      added = xs;
      are_added = kept.4;
      script = k;
      before = kept.0;
      are_pasted = kept.3;
      ts = ts;
      at = get_seen (λ (ts : Vec CodeToken Global). map seen ts.items) scripts k words at;
      cause =
          subst (λ (text : Bytes). IsPasteFaultLine (slice_index_or paths (k + 1) []) text m db.prelude s xs ts line) c.text_at-text.ensures
          (subst (λ (path : Bytes). IsPasteFaultLine path c.text_at-text.result.now m db.prelude s xs ts line) c.path_at-path.ensures h);
    })
    c.in_ok-unpasted-in-Err.field-0 (c.in_ok-unpasted-in-Err.ensures m db.prelude s xs ts unpasted)

pub loop-script-preserved : goal.loop-script-preserved
loop-script-preserved g c =
    let s = g.D.Declared.scope c.args.declared.now in
    let flags = c.args.flags.now in
    let db = c.args.database.now in
    let scripts = c.args.scripts.now in
    let k = c.loop-script.script in
    let words = c.index-scripts-script.result in
    let at = slice_get_read scripts (length scripts) k words refl c.loop-script-test.true c.index-scripts-script.is in
    let kept = c.loop-script.invariant in
    let xs = kept.2 in
    let laid = c.in-Ok.laid in
    let now = c.in-Ok.ensures.pasted flags db xs kept.6 kept.5 in
    let out = now.0 in
    let one = subst (λ ts. IsPasted (places_in s flags db) db.prelude s xs (map seen ts) out) c.as_slice.ensures.value now.2 in (
      kept.0 ++ out ∷ [],
      subst (λ ls. AllZip IsLaid (kept.0 ++ out ∷ []) ls) (sym c.in_ok-push-in-Ok.ensures.items)
          (all_zipped_more IsLaid kept.0 c.loop-script.all.items out laid kept.1 now.1),
      xs,
      zipped_more_at (IsPasted (places_in s flags db) db.prelude s xs) (seen_scripts scripts) k (map seen words.items) kept.0 out
          (get_seen (λ (ts : Vec CodeToken Global). map seen ts.items) scripts k words at) kept.3 one,
      kept.4,
      kept.5,
      kept.6,
    )

pub loop-script-init : goal.loop-script-init
loop-script-init g c =
    let s = g.D.Declared.scope c.args.declared.now in
    let flags = c.args.flags.now in
    let db = c.args.database.now in
    let scripts = seen_scripts c.args.scripts.now in
    let is : IsPaster s flags db c.in_ok-paster.paster = c.in_ok-paster.ensures in
    let m = places_in s flags db in
    let own = c.in_ok-additions.ensures in
    let known : AreKnown m db.prelude own.0 c.in_ok-additions.additions =
    subst (λ (t : Tables). AreKnown m t own.0 c.in_ok-additions.additions) (ap (λ d. d.prelude) is.database)
    (subst (λ (q : Map). AreKnown q c.in_ok-paster.paster.database.now.prelude own.0 c.in_ok-additions.additions)
    (places_are s flags db c.in_ok-paster.paster is) own.2) in
    let adds : AreAdditions m db.prelude scripts own.0 =
    subst (λ (t : Tables). AreAdditions m t scripts own.0) (ap (λ d. d.prelude) is.database)
    (subst (λ (q : Map). AreAdditions q c.in_ok-paster.paster.database.now.prelude scripts own.0)
    (places_are s flags db c.in_ok-paster.paster is) own.1) in
    ([], subst (λ ls. AllZip IsLaid [] ls) (sym c.new-all.ensures.items) tt, own.0, tt, adds, known, is)

pub returns-clause-pasted : goal.returns-clause-pasted
returns-clause-pasted g c =
    let s = g.D.Declared.scope c.args.declared.now in
    let flags = c.args.flags.now in
    let db = c.args.database.now in
    let scripts = seen_scripts c.args.scripts.now in
    let kept = c.loop-script.invariant in
    let whole : take c.loop-script.script scripts ≡ scripts =
    take_all c.loop-script.script scripts
    (subst (λ (n : ℕ). n ≤ c.loop-script.script) (sym (length-map c.args.scripts.now (λ (ts : Vec CodeToken Global). map seen ts.items)))
    c.loop-script-test.false) in (
      kept.0,
      kept.1,
      (kept.2, kept.4, subst (λ ss. ArePastedWith s flags db kept.2 ss kept.0) whole kept.3),
    )
