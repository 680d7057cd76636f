use Rattle.std.proofs.Common.{rules, ◌≡◌, ◌+◌, length}
use Rattle.std.proofs.lemmas.Option.{slice_get_read}
use Rattle.std.specs.List.{slice_get}
use Rattle.std.specs.declared.option.Option.TheVariants.{Some}
use Rattle.std.proofs.Common.{refl}
use Rattle.facts.proofs.PlaceLaws.{agree_everywhere, agree_one_more, same_cell}
use Rattle.facts.proofs.stretch.agree_from.Goals as goal

pub agrees-requires : goal.agrees-requires
agrees-requires g c =
    let xs = c.args.one.now.items in
    let ys = c.args.other.now.items in
    let here : slice_get xs (c.args.start + c.loop-place.place) ≡ Some c.index.result.now = slice_get_read xs (length xs) (c.args.start + c.loop-place.place) c.index.result.now refl (search rules) c.index.ensures in
    let there : slice_get ys c.loop-place.place ≡ Some c.index-in-loop-place.result.now = slice_get_read ys (length ys) c.loop-place.place c.index-in-loop-place.result.now refl (search rules) c.index-in-loop-place.ensures in
    same_cell xs ys c.args.start c.loop-place.place c.index.result.now c.index-in-loop-place.result.now c.requires.cells here there

pub loop-place-preserved : goal.loop-place-preserved
loop-place-preserved g c =
    let xs = c.args.one.now.items in
    let ys = c.args.other.now.items in
    let here : slice_get xs (c.args.start + c.loop-place.place) ≡ Some c.index.result.now = slice_get_read xs (length xs) (c.args.start + c.loop-place.place) c.index.result.now refl (search rules) c.index.ensures in
    let there : slice_get ys c.loop-place.place ≡ Some c.index-in-loop-place.result.now = slice_get_read ys (length ys) c.loop-place.place c.index-in-loop-place.result.now refl (search rules) c.index-in-loop-place.ensures in
    agree_one_more xs ys c.args.start c.loop-place.place c.index.result.now c.index-in-loop-place.result.now c.loop-place.invariant here there c.agrees.ensures

pub returns : goal.returns
returns g c = agree_everywhere c.args.one.now.items c.args.other.now.items c.args.start c.loop-place.place c.loop-place.invariant (λ j first second. search rules)
