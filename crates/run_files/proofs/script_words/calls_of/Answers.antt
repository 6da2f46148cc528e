use Rattle.std.proofs.Common.{rules, sym, subst, ◌+◌, List, ◌∷◌, [], ◌++◌, ◌≡◌, ◌∙◌, map, take}
use Rattle.std.specs.List.{AllZip}
use Rattle.std.proofs.lemmas.List.{take_all}
use Rattle.serde_json.specs.View.{view}
use Rattle.serde_json.specs.declared.value.Value.{Value}
use Rattle.run_files.specs.declared.script.ScriptCall.{ScriptCall}
use Rattle.run_files.specs.ScriptFile.{TellsCall}
use Rattle.run_files.specs.declared.fault.ValueFault.TheVariants.{Unfit, OutOfMemory}
use Rattle.run_files.proofs.Zipped.{zip_more}
use Rattle.run_files.proofs.Reading.{first_unfit}
use Rattle.run_files.proofs.script_words.calls_of.Goals as goal

pub loop-place-preserved : goal.loop-place-preserved
loop-place-preserved c =
    let pushed : c.push.new.self.items ≡ c.loop-place.calls.items ++ c.in-Ok.call ∷ [] = search rules in
    subst (λ (l : List ScriptCall). AllZip (TellsCall c.args.nodes) (map view (take (c.loop-place.place + 1) c.args.values.now)) l) (sym pushed)
    (zip_more (TellsCall c.args.nodes) view c.args.values.now c.loop-place.place c.index-values-place.result c.loop-place.calls.items c.in-Ok.call c.loop-place-test.true c.index-values-place.is c.loop-place.invariant c.in-Ok.ensures.read)

pub returns-in-Err-Unfit : goal.returns-in-Err-Unfit
returns-in-Err-Unfit c =
    first_unfit (TellsCall c.args.nodes) view c.args.values.now c.loop-place.place c.index-values-place.result c.loop-place.calls.items c.loop-place-test.true c.index-values-place.is c.loop-place.invariant
    (λ call told. let e : Unfit ≡ OutOfMemory = sym c.in-Err-Unfit.field-0-is ∙ c.in-Err-Unfit.ensures.refused call told in absurd cc)

pub returns : goal.returns
returns c =
    subst (λ (vs : List Value). AllZip (TellsCall c.args.nodes) (map view vs) c.loop-place.calls.items) (take_all c.loop-place.place c.args.values.now c.loop-place-test.false) c.loop-place.invariant
