-- The code's answers, as the definitions of the protocol see them.
use Rattle.std.specs.Prelude.{ℕ, List, Vec, Result, Ok, Err}
use Rattle.std.specs.Global.{Global}
use Rattle.udt_model.specs.declared.answers.Refusal.{Refusal}
use Rattle.udt_model.specs.Events as model
use Rattle.udt_model.specs.Texts.{reply_text, told}
use Rattle.udt_script.specs.declared.lines.Reply.{Reply}
use Rattle.udt_script.specs.declared.lines.Reply.TheVariants as code

-- what was read, without where it lies in memory
abbrev pub read_of : Result (Vec ℕ Global) Refusal → Result (List ℕ) Refusal
read_of (Ok bytes) = Ok bytes.items
read_of (Err why) = Err why

-- an answer, likewise
abbrev pub reply_of : Reply → model.Reply
reply_of (code.Listened answer) = model.DidListen answer
reply_of (code.Connected answer) = model.DidConnect answer
reply_of (code.Met answer) = model.DidMeet answer
reply_of (code.Accepted answer) = model.Accepted answer
reply_of (code.Shaken answer) = model.DidShake answer
reply_of (code.Offered id taken) = model.DidOffer taken
reply_of code.Withdrawn = model.DidWithdraw
reply_of (code.Sent answer) = model.Sent answer
reply_of (code.Received answer) = model.Received (read_of answer)
reply_of (code.SentMessage answer) = model.SentMessage answer
reply_of (code.ReceivedMessage answer) = model.ReceivedMessage (read_of answer)
reply_of (code.Packed answer) = model.DidPack answer
reply_of code.Ticked = model.DidTick
reply_of code.Closed = model.DidClose
reply_of (code.Measured answer) = model.DidMeasure answer
reply_of (code.Heard answer) = model.DidHear answer

-- what is printed of it after the socket's name. The ID of an offer stands in the act, and not in its answer
abbrev pub text_of : Reply → List ℕ
text_of (code.Offered id taken) = told (model.Offer id) (model.DidOffer taken)
text_of reply = reply_text (reply_of reply)
