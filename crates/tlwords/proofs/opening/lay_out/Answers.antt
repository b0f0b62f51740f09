use Rattle.std.proofs.Common.{arith, ap, sym, ◌∙◌, length, ◌≡◌, refl}
use Rattle.ranges.proofs.Named.{named_of_one}
use Rattle.tlwords.specs.Layout.{store_at}
use Rattle.tlwords.proofs.Openings.{opens_so, opened_so, words_length}
use Rattle.tlwords.proofs.opening.lay_out.Goals as goal

pub of_words-made-requires : goal.of_words-made-requires
of_words-made-requires g c =
    let s = c.requires.shape in
    rw (c.as_slice-3.ensures.value, c.of.ensures, c.of-2.ensures, c.of-3.ensures)
    (opens_so g.L.Law.terms c.args.setting.now c.args.values.now.items c.args.store.now.items c.in_ok-words.words.items c.args.room
    c.args.sessions s.4 s.3 s.2 (rw (sym c.as_slice.ensures.value, sym c.as_slice-2.ensures.value) c.in_ok-words.ensures) c.requires.opens
    c.requires.named)

pub invariant_of-words : goal.invariant_of-words
invariant_of-words g c =
    let s = c.requires.shape in
    let a = c.in-Ok.ensures in
    let words = rw (c.as_slice.ensures.value, c.as_slice-2.ensures.value) at c.in_ok-words.ensures in
    let b : length c.as_slice-3.result.now ≡ store_at (length c.args.values.now.items) c.args.room =
    ap length (c.as_slice-3.ensures.value ∙ words) ∙ words_length c.args.values.now.items c.args.store.now.items c.args.room s.4 in
    let cells = c.len.ensures in
    record {
      sized = let t = a.0 in omega (arith, t, b, cells);
      empty = a.1;
      small = (let l = s.0 in omega (arith, l, cells), s.3);
      keyed = ap (λ k. k.room) a.5;
      counted = let k = ap (λ k. length k.values.value.items) a.5 ∙ ap (λ v. length v.items) c.of-2.ensures in omega (arith, k, cells);
      dealt = let q : c.in-Ok.table.shared.key.sessions ≡ c.args.sessions = ap (λ k. k.sessions) a.5 in
          let z = s.1 in omega (arith, q, z);
    }

pub deal_all-requires-clause-store : goal.deal_all-requires-clause-store
deal_all-requires-clause-store g c =
    rw (c.as_slice-4.ensures.value, c.as_slice-5.ensures.value)
    (named_of_one (g.L.Law.terms.ranged c.args.setting.now) c.args.store.now.items c.args.values.now.items c.args.room c.requires.shape.4)

pub returns-clause-opened : goal.returns-clause-opened
returns-clause-opened g c =
    let key = c.in-Ok.ensures.5 in
    opened_so g.L.Law.terms c.args.setting.now c.args.values.now.items c.args.store.now.items c.args.room c.args.sessions _ _
    (let cells = c.len.ensures in omega (arith, cells)) refl (
      ap (λ k. k.setting.value) key ∙ c.of.ensures,
      ap (λ k. k.values.value.items) key ∙ ap (λ v. v.items) c.of-2.ensures,
      ap (λ k. k.store.value.items) key ∙ ap (λ v. v.items) c.of-3.ensures,
      ap (λ k. k.sessions) key,
    )
    (rw (c.as_slice-4.ensures.value, c.as_slice-5.ensures.value) at c.in_ok-passes.ensures.passes) c.in_ok-passes.ensures.names
    c.requires.opens c.requires.shape.4
