-- What is told of the first message that breaks a rule: which message it is, and in plain words each rule that it breaks (Lamport,
-- "Paxos Made Simple", section 2), with the earlier message that it goes against.
use Rattle.std.specs.Prelude.{ℕ, Bool, true, false, List, [], ◌++◌, codes, Option, Some, None}
use Rattle.std.specs.List.{slice_get}
use Rattle.std.specs.Fmt.{decimal}
use Rattle.ballots.specs.declared.message.Message.{Message}
use Rattle.run_breaches.specs.declared.breach.Breach.{Breach}
use Rattle.run_breaches.specs.declared.breach.BrokenRules.{BrokenRules}
use Rattle.run_breaches.specs.declared.breach.BrokenRules.TheVariants.{Promise, Accept, Accepted, Decided}
use Rattle.breach_words.specs.Words.{message_text}

-- ---- each rule that is broken, in plain words

abbrev pub promises_below : List ℕ
promises_below = codes "its sender had promised this ballot or a higher one, or accepted at one"

abbrev pub leaves_out_an_acceptance : List ℕ
leaves_out_an_acceptance = codes "its sender had accepted a value that it does not report, at a higher ballot than it reports or where it reports none"

abbrev pub reports_no_lower_ballot : List ℕ
reports_no_lower_ballot = codes "what it reports was not accepted at a ballot below the promised one"

abbrev pub reports_what_nobody_proposed : List ℕ
reports_what_nobody_proposed = codes "what it reports was not proposed before"

abbrev pub proposes_a_second_value : List ℕ
proposes_a_second_value = codes "another value was proposed at its ballot"

abbrev pub proposes_without_a_majority : List ℕ
proposes_without_a_majority = codes "no majority had promised its ballot"

abbrev pub proposes_over_a_report : List ℕ
proposes_over_a_report = codes "its value is not that of the highest report among the promises of its ballot"

abbrev pub accepts_what_nobody_proposed : List ℕ
accepts_what_nobody_proposed = codes "its value was not proposed at its ballot"

abbrev pub accepts_below_its_promise : List ℕ
accepts_below_its_promise = codes "its sender had promised a higher ballot, or accepted at one"

abbrev pub decides_what_was_not_chosen : List ℕ
decides_what_was_not_chosen = codes "no majority had accepted its value at one ballot"

-- ---- the lines

-- the line of the message in that place, and nothing where there is none
abbrev pub line_of : Option Message → List ℕ
line_of None = []
line_of (Some m) = message_text m

abbrev pub line_at : List Message → ℕ → List ℕ
line_at sent place = line_of (slice_get sent place)

-- a broken rule that goes against no single message
abbrev pub told : Bool → List ℕ → List ℕ
told false reason = []
told true reason = codes "- " ++ (reason ++ codes "\n")

-- a broken rule, with the message that it goes against
abbrev pub told_against : List Message → Option ℕ → List ℕ → List ℕ
told_against sent None reason = []
told_against sent (Some place) reason = codes "- " ++ (reason ++ (codes "; message " ++ (decimal place ++ (codes ": " ++ (line_at sent place ++ codes "\n")))))

-- a line for each rule that is broken
abbrev pub rules_text : List Message → BrokenRules → List ℕ
rules_text sent (Promise not_above unreported report_not_below report_not_proposed) =
    (told_against sent not_above promises_below ++ told_against sent unreported leaves_out_an_acceptance)
    ++ (told report_not_below reports_no_lower_ballot ++ told report_not_proposed reports_what_nobody_proposed)
rules_text sent (Accept second_value not_promised not_reported) =
    told_against sent second_value proposes_a_second_value
    ++ (told not_promised proposes_without_a_majority ++ told_against sent not_reported proposes_over_a_report)
rules_text sent (Accepted not_proposed below) =
    told not_proposed accepts_what_nobody_proposed ++ told_against sent below accepts_below_its_promise
rules_text sent Decided = told true decides_what_was_not_chosen

-- the number of the message, its slot, its line, and a line for each rule that it breaks
abbrev pub explanation_of : List Message → Breach → List ℕ
explanation_of sent b =
    codes "message " ++ (decimal b.place ++ (codes " of slot " ++ (decimal b.slot ++ (codes " breaks the rules: " ++ (line_at sent b.place
    ++ (codes "\n" ++ rules_text sent b.broken))))))
