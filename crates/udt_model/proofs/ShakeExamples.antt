-- Worked examples of connections, of which the values are computed from the definitions.
use Rattle.std.proofs.Common.{◌≡◌, ℕ, List, [], ◌∷◌, None, Ok, Err, refl}
use Rattle.std.specs.Prelude.{map, false}
use Rattle.std.specs.List.{concat}
use Rattle.udt_model.specs.declared.addresses.Addr.{Addr}
use Rattle.udt_model.specs.declared.addresses.Ip.TheVariants.{V4}
use Rattle.udt_model.specs.declared.answers.Heard.TheVariants as heard
use Rattle.udt_model.specs.declared.answers.Peer.{Peer}
use Rattle.udt_model.specs.declared.answers.Refusal.TheVariants as refusal
use Rattle.udt_model.specs.declared.answers.Shaken.TheVariants as shaken
use Rattle.udt_model.specs.declared.packets.Config.{Config}
use Rattle.udt_model.specs.declared.packets.Kind.TheVariants.{Stream}
use Rattle.udt_model.specs.Events.{Act, Listen, Connect, Meet, Accept, Shake, Send, SendMessage, Tick, Arrive, Reply, DidListen, DidConnect, Accepted, DidShake, Sent, SentMessage, DidHear, event}
use Rattle.udt_model.specs.Handshakes.{client_saw, meet_saw}
use Rattle.udt_model.specs.Opening.{opened, opening}
use Rattle.udt_model.specs.Rate.{Pacing, native}
use Rattle.udt_model.specs.State.{State, Emission}
use Rattle.udt_model.specs.Step.{step}
use Rattle.udt_model.specs.Wire.{read, read_control, spelling, word}

-- blocks of four bytes, four of them each way
config : Config
config = record { kind = Stream; payload = 4; snd_blocks = 4; rcv_blocks = 4 }

-- a port of an address
at : ℕ → ℕ → Addr
at ip port = record { ip = V4 ip; port = port }

-- what an act at a moment leaves, answers and emits
after : State Pacing → ℕ → Act → State Pacing
after s now act = (step native s (event now act)).after

reply : State Pacing → ℕ → Act → Reply
reply s now act = (step native s (event now act)).reply

emits : State Pacing → ℕ → Act → List Emission
emits s now act = (step native s (event now act)).emissions

-- one datagram, of these words
sent : Addr → List ℕ → List Emission
sent to words = record { datagram = record { addr = to; bytes = concat (map word words) }; offsets = [] } ∷ []

-- ---- a client

-- a client of 10.0.0.8 asks a listener at 10.0.0.9:9000
listener : Addr
listener = at 0x0a000009 9000

client : State Pacing
client = after (opened native 2 5 config 0) 0 (Connect listener)

client-asks : emits client 0 Tick
    ≡ sent listener (0x80000000 ∷ 0 ∷ 0 ∷ 0 ∷ 4 ∷ 1 ∷ 5 ∷ 0x30 ∷ 4 ∷ 1 ∷ 2 ∷ 0 ∷ 0x0a000009 ∷ 0 ∷ 0 ∷ 0 ∷ [])
unfolding config at after emits sent listener client step opened spelling
client-asks = refl

-- it asks again before the third second is over, and then no more
client-asks_again : emits client 2999999 Tick
    ≡ sent listener (0x80000000 ∷ 0 ∷ 2999999 ∷ 0 ∷ 4 ∷ 1 ∷ 5 ∷ 0x30 ∷ 4 ∷ 1 ∷ 2 ∷ 0 ∷ 0x0a000009 ∷ 0 ∷ 0 ∷ 0 ∷ [])
unfolding config at after emits sent listener client step opened spelling
client-asks_again = refl

client-ends : emits client 3000000 Tick ≡ []
unfolding config at after emits listener client step opened
client-ends = refl

client-timed_out : reply (after client 3000000 Tick) 3000000 Shake ≡ DidShake shaken.TimedOut
unfolding config at after reply listener client step opened
client-timed_out = refl

-- a handshake's bytes, with this time stamp for this ID
handshake : ℕ → ℕ → List ℕ → List ℕ
handshake stamp dest words = concat (map word (0x80000000 ∷ 0 ∷ stamp ∷ dest ∷ words))

-- a cookie comes, which goes back at once, and then the answer of the socket 3 with the initial sequence number 5
cookie : Act
cookie = Arrive listener (handshake 1000 2 (4 ∷ 1 ∷ 5 ∷ 0x30 ∷ 4 ∷ 1 ∷ 2 ∷ 77 ∷ 0x0a000008 ∷ 0 ∷ 0 ∷ 0 ∷ []))

answer : Act
answer = Arrive listener (handshake 3000 2 (4 ∷ 1 ∷ 5 ∷ 0x30 ∷ 4 ∷ 0xffffffff ∷ 3 ∷ 0 ∷ 0x0a000008 ∷ 0 ∷ 0 ∷ 0 ∷ []))

refused : Act
refused = Arrive listener (handshake 3000 2 (4 ∷ 1 ∷ 5 ∷ 0x30 ∷ 4 ∷ 0x3ea ∷ 2 ∷ 77 ∷ 0x0a000008 ∷ 0 ∷ 0 ∷ 0 ∷ []))

client-heard_cookie : reply client 2000 cookie ≡ DidHear heard.Cookie
unfolding config at after reply listener client handshake cookie step opened read read_control client_saw
client-heard_cookie = refl

client-gives_back : emits client 2000 cookie
    ≡ sent listener (0x80000000 ∷ 0 ∷ 0x7d0 ∷ 0 ∷ 4 ∷ 1 ∷ 5 ∷ 0x30 ∷ 4 ∷ 1 ∷ 2 ∷ 77 ∷ 0x0a000009 ∷ 0 ∷ 0 ∷ 0 ∷ [])
unfolding config at after emits sent listener client handshake cookie step opened spelling read read_control client_saw
client-gives_back = refl

client-heard_answer : reply (after client 2000 cookie) 4000 answer ≡ DidHear heard.Connected
unfolding config at after reply listener client handshake cookie answer step opened read read_control client_saw
client-heard_answer = refl

client-done : reply (after (after client 2000 cookie) 4000 answer) 4000 Shake ≡ DidShake shaken.Done
unfolding config at after reply listener client handshake cookie answer step opened read read_control client_saw
client-done = refl

-- or a refusal
client-heard_refusal : reply (after client 2000 cookie) 4000 refused ≡ DidHear heard.Rejected
unfolding config at after reply listener client handshake cookie refused step opened read read_control client_saw
client-heard_refusal = refl

client-rejected : reply (after (after client 2000 cookie) 4000 refused) 4000 Shake ≡ DidShake shaken.Rejected
unfolding config at after reply listener client handshake cookie refused step opened read read_control client_saw
client-rejected = refl

-- ---- a rendezvous

-- the socket 1 of 10.0.0.1:5000 and the socket 2 of 10.0.0.2:5000 meet
first_host : Addr
first_host = at 0x0a000001 5000

second_host : Addr
second_host = at 0x0a000002 5000

first : State Pacing
first = after (opened native 1 5 config 0) 0 (Meet second_host)

second : State Pacing
second = after (opened native 2 9 config 0) 0 (Meet first_host)

first-meets : emits first 0 Tick
    ≡ sent second_host (0x80000000 ∷ 0 ∷ 0 ∷ 0 ∷ 4 ∷ 1 ∷ 5 ∷ 0x30 ∷ 4 ∷ 0 ∷ 1 ∷ 0 ∷ 0x0a000002 ∷ 0 ∷ 0 ∷ 0 ∷ [])
unfolding config at after emits sent second_host first step opened spelling
first-meets = refl

-- what the first one says arrives, and what the second one says never does
meets : Act
meets = Arrive first_host (handshake 0 0 (4 ∷ 1 ∷ 5 ∷ 0x30 ∷ 4 ∷ 0 ∷ 1 ∷ 0 ∷ 0x0a000002 ∷ 0 ∷ 0 ∷ 0 ∷ []))

second-adopts : reply second 1000 meets ≡ DidHear heard.Adopted
unfolding config at after reply first_host second handshake meets step opened read read_control meet_saw
second-adopts = refl

second-answers : emits second 1000 meets
    ≡ sent first_host
    (0x80000000 ∷ 0 ∷ 1000 ∷ 1 ∷ 4 ∷ 1 ∷ 9 ∷ 0x30 ∷ 4 ∷ 0xffffffff ∷ 2 ∷ 0 ∷ 0x0a000001 ∷ 0 ∷ 0 ∷ 0 ∷ [])
unfolding config at after emits sent first_host second handshake meets step opened spelling read read_control meet_saw
second-answers = refl

answers : Act
answers = Arrive second_host
    (handshake 1000 1 (4 ∷ 1 ∷ 9 ∷ 0x30 ∷ 4 ∷ 0xffffffff ∷ 2 ∷ 0 ∷ 0x0a000001 ∷ 0 ∷ 0 ∷ 0 ∷ []))

first-connected : reply first 2000 answers ≡ DidHear heard.Connected
unfolding config at after reply second_host first handshake answers step opened read read_control meet_saw
first-connected = refl

first-agrees : emits first 2000 answers
    ≡ sent second_host
    (0x80000000 ∷ 0 ∷ 2000 ∷ 2 ∷ 4 ∷ 1 ∷ 5 ∷ 0x30 ∷ 4 ∷ 0xfffffffe ∷ 1 ∷ 0 ∷ 0x0a000002 ∷ 0 ∷ 0 ∷ 0 ∷ [])
unfolding config at after emits sent second_host first handshake answers step opened spelling read read_control meet_saw
first-agrees = refl

agrees : Act
agrees = Arrive first_host (handshake 2000 2 (4 ∷ 1 ∷ 5 ∷ 0x30 ∷ 4 ∷ 0xfffffffe ∷ 1 ∷ 0 ∷ 0x0a000002 ∷ 0 ∷ 0 ∷ 0 ∷ []))

second-connected : reply (after second 1000 meets) 3000 agrees ≡ DidHear heard.Connected
unfolding config at after reply first_host second handshake meets agrees step opened read read_control meet_saw
second-connected = refl

-- ---- calls

-- a socket that was just opened
fresh : State Pacing
fresh = opened native 1 0 config 0

fresh-send : reply fresh 0 (Send (1 ∷ [])) ≡ Sent (Err refusal.NotConnected)
unfolding config reply fresh step opened
fresh-send = refl

fresh-message : reply fresh 0 (SendMessage None false (1 ∷ [])) ≡ SentMessage (Err refusal.StreamOnly)
unfolding config reply fresh step opened
fresh-message = refl

fresh-accept : reply fresh 0 Accept ≡ Accepted (Err refusal.NotListening)
unfolding config reply fresh step opened
fresh-accept = refl

fresh-none : reply fresh 0 (Listen 0 []) ≡ DidListen (Err refusal.BadParameter)
unfolding config reply fresh step opened
fresh-none = refl

-- it listens, and then neither asks nor has anything to accept
fresh-listens : reply fresh 0 (Listen 1 []) ≡ DidListen (Ok tt)
unfolding config reply fresh step opened
fresh-listens = refl

listening-connect : reply (after fresh 0 (Listen 1 [])) 0 (Connect (at 0x0a000009 1))
    ≡ DidConnect (Err refusal.Connected)
unfolding config at after reply fresh step opened
listening-connect = refl

listening-accept : reply (after fresh 0 (Listen 1 [])) 0 Accept ≡ Accepted (Err refusal.AgainRecv)
unfolding config after reply fresh step opened
listening-accept = refl

-- ---- a socket that a listener made

-- the socket 3 was made for what the client asked, and answers it as often as it comes
client_peer : Peer
client_peer = record { addr = at 0x0a000008 7000; id = 2; isn = 5; payload = 4; flow = 4 }

made : State Pacing
made = opening native 3 config client_peer 0 0

request : Act
request = Arrive (at 0x0a000008 7000)
    (handshake 2000 0 (4 ∷ 1 ∷ 5 ∷ 0x30 ∷ 4 ∷ 1 ∷ 2 ∷ 77 ∷ 0x0a000009 ∷ 0 ∷ 0 ∷ 0 ∷ []))

made-heard : reply made 3000 request ≡ DidHear heard.Answered
unfolding config at reply handshake client_peer made request step opening read read_control
made-heard = refl

made-answers : emits made 3000 request
    ≡ sent (at 0x0a000008 7000)
    (0x80000000 ∷ 0 ∷ 0xbb8 ∷ 2 ∷ 4 ∷ 1 ∷ 5 ∷ 0x30 ∷ 4 ∷ 0xffffffff ∷ 3 ∷ 0 ∷ 0x0a000008 ∷ 0 ∷ 0 ∷ 0 ∷ [])
unfolding config at emits sent handshake client_peer made request step opening spelling read read_control
made-answers = refl

made-answers_again : emits (after made 3000 request) 5000 request
    ≡ sent (at 0x0a000008 7000)
    (0x80000000 ∷ 0 ∷ 0x1388 ∷ 2 ∷ 4 ∷ 1 ∷ 5 ∷ 0x30 ∷ 4 ∷ 0xffffffff ∷ 3 ∷ 0 ∷ 0x0a000008 ∷ 0 ∷ 0 ∷ 0 ∷ [])
unfolding config at after emits sent handshake client_peer made request step opening spelling read read_control
made-answers_again = refl
