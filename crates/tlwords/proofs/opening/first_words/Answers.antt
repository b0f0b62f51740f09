use Rattle.std.proofs.Common.{◌≡◌, ◌++◌, ◌-◌, ℕ, List, length, replicate, refl, ap, ◌∙◌, arith}
use Rattle.tlwords.specs.Layout.{unused, opening_words, front_of}
use Rattle.tlwords.proofs.Openings.{all_words, longer}
use Rattle.tlwords.proofs.opening.first_words.Goals as goal

pub overflow_add-length : goal.overflow_add-length
overflow_add-length c =
    let v = c.extend_from_slice-3.new.self in let s = v.small in let o = v.ok.0 in let l = c.len.ensures in let r =
    c.requires.1 in omega arith

pub returns : goal.returns
returns c =
    let k = c.args.room - length c.args.store.now in
    let last = c.extend_from_slice-3.new.self in
    let zeros : c.resize.new.self.items ≡ last.items ++ replicate k 0 =
    longer last.items c.resize.new.self.items _ k _ c.len.result (c.len.ensures ∙ last.ok.0) refl last.ok.0 c.in_ok-resize.ensures.items in
    all_words (front_of 0 (opening_words c.args.values.now)) c.args.store.now
    (replicate k 0) c.extend_from_slice.new.self.items c.push.new.self.items
    c.extend_from_slice-2.new.self.items last.items c.resize.new.self.items (length c.args.store.now)
    (c.in_ok-extend_from_slice.ensures.items ∙ ap (λ (l : List ℕ). l ++ unused) c.in_ok-words.ensures) c.in_ok-push.ensures.items
    c.in_ok-extend_from_slice-2.ensures.items c.in_ok-extend_from_slice-3.ensures.items zeros
