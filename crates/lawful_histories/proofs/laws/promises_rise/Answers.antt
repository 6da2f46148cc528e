use Rattle.std.proofs.Common.{inl}
use Rattle.lawful_histories.specs.Saying.{Promise}
use Rattle.lawful_histories.proofs.ByMessages.{says_said}
use Rattle.lawful_histories.proofs.laws.promises_rise.Goals as goal

pub returns : goal.returns
returns g = λ n sent j k a s b c q r lawful lt first second.
    (lawful s).keeps_its_promise.promises j k a b c r lt (inl (q, says_said sent j s (Promise a b q) first)) (says_said sent k s (Promise a c r) second)
