use Rattle.core_waiting.proofs.Asking.{enters, not_lost}
use Rattle.core_waiting.proofs.Answered.{settles}
use Rattle.core_waiting.proofs.requests.law_of_request.Goals as goal

pub returns-clause-heard : goal.returns-clause-heard
returns-clause-heard c = λ goal between before level now grace stage other unasked rest idle.
    not_lost goal between before level now grace stage other unasked rest idle

pub returns-clause-entered : goal.returns-clause-entered
returns-clause-entered c = λ goal later between before level now grace seconds s sound stage other unasked none.
    enters goal between before level now grace stage other unasked later s seconds sound none

pub returns-clause-settled : goal.returns-clause-settled
returns-clause-settled c = λ goal later between before rounds level grace sound other unasked are few.
    settles goal between before level grace unasked later rounds sound other are few
