use Rattle.std.proofs.Common.{rules, sym, subst, ◌+◌, List, ◌∷◌, [], ◌++◌, ◌≡◌, ◌∙◌, map, take}
use Rattle.std.specs.List.{AllZip}
use Rattle.std.proofs.lemmas.List.{take_all}
use Rattle.serde_json.specs.View.{view}
use Rattle.serde_json.specs.declared.value.Value.{Value}
use Rattle.node_events.specs.declared.event.Event.{Event}
use Rattle.run_files.specs.ScheduleFile.{TellsEvent}
use Rattle.run_files.specs.declared.fault.ValueFault.TheVariants.{Unfit, OutOfMemory}
use Rattle.run_files.proofs.Zipped.{zip_more}
use Rattle.run_files.proofs.Reading.{first_unfit}
use Rattle.run_files.proofs.event_words.events_of.Goals as goal

pub loop-place-preserved : goal.loop-place-preserved
loop-place-preserved c =
    let pushed : c.push.new.self.items ≡ c.loop-place.events.items ++ c.in-Ok.event ∷ [] = search rules in
    subst (λ (l : List Event). AllZip (TellsEvent c.args.uploads.now) (map view (take (c.loop-place.place + 1) c.args.values.now)) l) (sym pushed)
    (zip_more (TellsEvent c.args.uploads.now) view c.args.values.now c.loop-place.place c.index-values-place.result c.loop-place.events.items c.in-Ok.event c.loop-place-test.true c.index-values-place.is c.loop-place.invariant c.in-Ok.ensures.read)

pub returns-in-Err-Unfit : goal.returns-in-Err-Unfit
returns-in-Err-Unfit c =
    first_unfit (TellsEvent c.args.uploads.now) view c.args.values.now c.loop-place.place c.index-values-place.result c.loop-place.events.items c.loop-place-test.true c.index-values-place.is c.loop-place.invariant
    (λ event told. let e : Unfit ≡ OutOfMemory = sym c.in-Err-Unfit.field-0-is ∙ c.in-Err-Unfit.ensures.refused event told in absurd cc)

pub returns : goal.returns
returns c =
    subst (λ (vs : List Value). AllZip (TellsEvent c.args.uploads.now) (map view vs) c.loop-place.events.items) (take_all c.loop-place.place c.args.values.now c.loop-place-test.false) c.loop-place.invariant
