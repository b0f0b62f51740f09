-- What is left to show of `paste`.
use Rattle.std.proofs.Common.{◌≡◌, ◌+◌, ◌++◌, length, map, drop, take, refl, sym, ap, subst, arith}
use Rattle.std.proofs.lemmas.List.{drop_all}
use Rattle.std.proofs.lemmas.Result.{err_from_is_err_and}
use Rattle.mmtext.specs.Views.{seen}
use Rattle.mmsyntax.specs.Tables.{Tables}
use Rattle.taking.specs.Names.{Map}
use Rattle.spreading.proofs.Parted.{more_within, some_first, part_first, parts_of, words_behind}
use Rattle.pasting.specs.Places.{places_in}
use Rattle.pasting.specs.Pasted.{pasted, IsPasted}
use Rattle.pasting.specs.Views.{AreKnown, IsUnpasted, places_by}
use Rattle.pasting.proofs.Pasting.{IsPasting, at_last, goes_on, refused, places_are}
use Rattle.pasting.proofs.paster.Paster.paste.Goals as goal

pub loop-at-preserved : goal.loop-at-preserved
loop-at-preserved g c =
    let s = g.D.Declared.scope c.args.declared.now in
    let words = c.args.words.now in
    let at = c.loop-at.at in
    let n = c.part_length.result in
    let lt = c.loop-at-test.true in
    let part = take n (words_behind words at) in
    let within = c.part_length.ensures.within in
    let first = c.part_length.ensures.part in
    let m = places_by c.args.self.now in
    let t = c.args.self.now.database.now.prelude in
    let p = map seen part in
    record {
      within = more_within words at n lt within first part refl;
      pasting = λ xs known.
          let kept = c.loop-at.invariant.pasting xs known in
          let out = kept.0 in (
            out ++ pasted m t s xs p,
            c.in_ok-put_part.ensures.pasted xs known out kept.1,
            goes_on m t s xs (map seen words) (map seen (drop at words)) p (map seen (drop (at + length part) words)) out kept.2
                (part_first words at n lt within first part refl) (c.in_ok-put_part.ensures.fits xs known),
          );
    }

pub loop-at-smaller : goal.loop-at-smaller
loop-at-smaller g c =
    let words = c.args.words.now in
    let at = c.loop-at.at in
    let n = c.part_length.result in
    let lt = c.loop-at-test.true in
    let some = some_first words at n lt c.part_length.ensures.within c.part_length.ensures.part (take n (words_behind words at)) refl in
    omega arith

pub returns-clause-pasted : goal.returns-clause-pasted
returns-clause-pasted g c = λ flags db xs is known.
    let s = g.D.Declared.scope c.args.declared.now in
    let ts = map seen c.args.words.now in
    let q = places_in s flags db in
    let same : places_by c.args.self.now ≡ q = places_are s flags db c.args.self.now is in
    let tables : c.args.self.now.database.now.prelude ≡ db.prelude = ap (λ d. d.prelude) is.database in
    let known' : AreKnown (places_by c.args.self.now) c.args.self.now.database.now.prelude xs c.args.additions.now =
    subst (λ (t : Tables). AreKnown (places_by c.args.self.now) t xs c.args.additions.now) (sym tables)
    (subst (λ (m : Map). AreKnown m db.prelude xs c.args.additions.now) (sym same) known) in
    let kept = c.loop-at.invariant.pasting xs known' in
    let out = kept.0 in
    let none = ap (map seen) (drop_all c.loop-at.at c.args.words.now c.loop-at-test.false) in
    let all : IsPasted (places_by c.args.self.now) c.args.self.now.database.now.prelude s xs ts out =
    at_last (places_by c.args.self.now) c.args.self.now.database.now.prelude s xs ts out
    (subst (λ us. IsPasting (places_by c.args.self.now) c.args.self.now.database.now.prelude s xs ts us out) none kept.2) in (
      out,
      kept.1,
      subst (λ (t : Tables). IsPasted q t s xs ts out) tables
          (subst (λ (m : Map). IsPasted m c.args.self.now.database.now.prelude s xs ts out) same all),
    )

pub returns-in_err-put_part-clause-faulty : goal.returns-in_err-put_part-clause-faulty
returns-in_err-put_part-clause-faulty g c = λ flags db xs is known.
    let s = g.D.Declared.scope c.args.declared.now in
    let words = c.args.words.now in
    let at = c.loop-at.at in
    let n = c.part_length.result in
    let lt = c.loop-at-test.true in
    let part = take n (words_behind words at) in
    let within = c.part_length.ensures.within in
    let first = c.part_length.ensures.part in
    let m = places_by c.args.self.now in
    let t = c.args.self.now.database.now.prelude in
    let q = places_in s flags db in
    let same : m ≡ q = places_are s flags db c.args.self.now is in
    let tables : t ≡ db.prelude = ap (λ d. d.prelude) is.database in
    let known' : AreKnown m t xs c.args.additions.now =
    subst (λ (u : Tables). AreKnown m u xs c.args.additions.now) (sym tables)
    (subst (λ (k : Map). AreKnown k db.prelude xs c.args.additions.now) (sym same) known) in
    let kept = c.loop-at.invariant.pasting xs known' in
    let behind = map seen (drop (at + length part) words) in
    let parts = parts_of behind in
    let why = refused m t s xs (map seen words) (map seen (drop at words)) (map seen part) behind kept.0 kept.2
    (part_first words at n lt within first part refl) parts.0 parts.1 _ (c.in_err-put_part.ensures.faulty xs known') in
    let p = err_from_is_err_and c.from_residual.result c.from_residual.ensures.1 in
    rw p.1 (subst (IsUnpasted q db.prelude s xs (map seen words)) (sym p.2)
    (subst (λ (u : Tables). IsUnpasted q u s xs (map seen words) c.in_err-put_part.field-0.0) tables
    (subst (λ (k : Map). IsUnpasted k t s xs (map seen words) c.in_err-put_part.field-0.0) same why)))
