-- Worked examples, of which the values are computed from the definitions.
use Rattle.std.proofs.Common.{◌≡◌, List, ◌++◌, refl, ap}
use Rattle.std.specs.Prelude.{ℕ, negsuc, zero, suc, ◌+◌, ◌-◌, ◌*◌, ◌/◌, ◌^◌, max, true, false, ◌∷◌, [], length, drop, is_some, Option, Some, None, Ok, Err, codes}
use Rattle.udt_model.specs.declared.scripts.ControlName.TheVariants.{Native, Fixed}
use Rattle.udt_model.specs.declared.answers.Cause.TheVariants as cause
use Rattle.udt_model.specs.declared.answers.Heard.TheVariants as heard
use Rattle.udt_model.specs.Phases as phase
use Rattle.udt_model.specs.declared.answers.Peer.{Peer}
use Rattle.udt_model.specs.declared.answers.SendNo.TheVariants as no
use Rattle.udt_model.specs.declared.packets.AckBody.TheVariants.{Light, Buffer, Full}
use Rattle.udt_model.specs.declared.packets.Config.{Config}
use Rattle.udt_model.specs.declared.packets.Kind.TheVariants.{Stream}
use Rattle.udt_model.specs.declared.packets.Malformed.TheVariants.{BadNakRange}
use Rattle.udt_model.specs.declared.sockets.ExpOutcome.TheVariants as exp
use Rattle.std.specs.Fmt.{digits}
use Rattle.udt_model.specs.Numbers.{near}
use Rattle.udt_model.specs.Wire.{Block, Nak, spelling, read_control, read, target, ranges_bytes, ranges_from}
use Rattle.udt_model.specs.Wire as wire
use Rattle.udt_model.specs.Losses as losses
use Rattle.udt_model.specs.Losses.{LostRange, Missing, reported_at, missing_ranges, without_range, with_range, from_offset, with_missing, without_missing, report, fitting_ranges, after_report}
use Rattle.udt_model.specs.Rate.{Feedback, Call, OnAck, OnNak, OnTimeout, Pacing, first_power, power_of_ten, increase_of, shorter_of, native}
use Rattle.udt_model.specs.Controls.{aimd_after}
use Rattle.udt_model.specs.Timing.{unmeasured, after_sample, with_sample, speed_of, capacity_of, in_order, put_in_order}
use Rattle.udt_model.specs.SendBlocks.{blocks_of}
use Rattle.udt_model.specs.SendHalf.{Sending, message_after, idle_sending, linked_sending, send_answer, after_send, message_answer, after_send_message, packing, pack_moment}
use Rattle.udt_model.specs.SendReports.{averaged, flow_after, with_ranges, acking, after_ack, entering, after_nak, after_timeout}
use Rattle.udt_model.specs.ReceiveBlocks.{placing_of, put_block, after_place, bytes_from, beginning, with_consumed, up_to_last, message_from}
use Rattle.udt_model.specs.ReceiveHalf.{Receiving, measured, offset_of, after_block, block_answer, drop_range, after_drop, drop_answer}
use Rattle.udt_model.specs.ReceiveReports.{number_after, ack_outcome, after_ack_timer, nak_report, after_nak_timer, after_ack2}
use Rattle.udt_model.specs.Step.{step}
use Rattle.udt_model.specs.Ticks.{exp_interval, exp_outcome}
use Rattle.udt_model.specs.State.{State}
use Rattle.udt_model.specs.Moments.{next_moment}
use Rattle.udt_model.specs.Readiness.{ready_bits}
use Rattle.udt_model.specs.Draws.{draw}
use Rattle.udt_model.specs.Events.{Arrive, DidHear, Event, event, outs_of}
use Rattle.udt_model.specs.Opening.{opening}
use Rattle.udt_model.specs.History.{after_items}
use Rattle.udt_model.specs.Words.{words_of, number_of, pairs_of, hex_pairs}
use Rattle.udt_model.specs.Lines.{pair_line, call_of, call_line, deliver_line, raw_line, line_by_words, read_line}
use Rattle.udt_model.specs.Addresses.{ip_of, around_double, groups_of_v6, address_text, bytes_of_v4, addr_of}
use Rattle.udt_model.specs.Script.{paired, event_at, played_line, network_from, printed_after, pieces_of, played_from, played}
use Rattle.udt_model.specs.Network.{first_host, place_of, route}
use Rattle.udt_model.specs.Texts.{datagram_text, datagrams_text, event_text, perf_text, path_text, blocks_text, others_text}

-- ---- scripts

-- a text with its line feed
line : List ℕ → List ℕ
line text = text ++ 10 ∷ []

-- five bytes are two blocks, of four bytes and of one, and each leaves as a packet
two_blocks : List ℕ
two_blocks =
    line (codes "pair stream a b 4 5 4")
    ++ line (codes "a send 1000 68656c6c6f")
    ++ line (codes "a pack 1000")
    ++ line (codes "a pack 1000")

two_blocks_printed : List ℕ
two_blocks_printed =
    line (codes "pair a 1 b 2")
    ++ line (codes "a send 5")
    ++ line (codes "a pack data")
    ++ line (codes "datagram 0 10.0.0.1:9000 10.0.0.2:9000 0000000580000001000003e80000000268656c6c")
    ++ line (codes "a pack data")
    ++ line (codes "datagram 1 10.0.0.1:9000 10.0.0.2:9000 0000000640000001000003e8000000026f")

two_blocks-played : (played Native two_blocks).text ≡ two_blocks_printed
unfolding digits line spelling send_answer blocks_of after_send packing step opening after_items words_of number_of pairs_of hex_pairs pair_line call_of call_line line_by_words read_line address_text place_of datagram_text datagrams_text event_text paired event_at played_line network_from printed_after pieces_of played_from played two_blocks two_blocks_printed
two_blocks-played = refl

-- the second block arrives first: a NAK reports the first one, which is waited for
late_block : List ℕ
late_block =
    two_blocks
    ++ line (codes "deliver 1 2000")
    ++ line (codes "b recv 2000 10")
    ++ line (codes "deliver 0 3000")
    ++ line (codes "b recv 3000 10")

late_block_printed : List ℕ
late_block_printed =
    two_blocks_printed
    ++ line (codes "b arrive placed")
    ++ line (codes "datagram 2 10.0.0.2:9000 10.0.0.1:9000 8003000000000000000007d00000000100000005")
    ++ line (codes "b recv again")
    ++ line (codes "b arrive placed")
    ++ line (codes "b recv 68656c6c6f")

late_block-played : (played Native late_block).text ≡ late_block_printed
unfolding digits line near spelling read target send_answer blocks_of after_send packing placing_of put_block after_place bytes_from beginning offset_of after_block block_answer step opening after_items words_of number_of pairs_of hex_pairs pair_line call_of call_line deliver_line line_by_words read_line address_text place_of datagram_text datagrams_text event_text paired event_at route played_line network_from printed_after pieces_of played_from played ranges_bytes with_missing without_missing two_blocks late_block two_blocks_printed late_block_printed
late_block-played = refl

-- a block that arrives again is a double, and once it was read lies below
repeated_block : List ℕ
repeated_block =
    two_blocks
    ++ line (codes "deliver 0 2000")
    ++ line (codes "deliver 0 2100")
    ++ line (codes "b recv 2200 4")
    ++ line (codes "deliver 0 2300")

repeated_block_printed : List ℕ
repeated_block_printed =
    two_blocks_printed
    ++ line (codes "b arrive placed")
    ++ line (codes "b arrive double")
    ++ line (codes "b recv 68656c6c")
    ++ line (codes "b arrive below")

repeated_block-played : (played Native repeated_block).text ≡ repeated_block_printed
unfolding digits line near spelling read target send_answer blocks_of after_send packing placing_of put_block after_place bytes_from beginning offset_of after_block block_answer step opening after_items words_of number_of pairs_of hex_pairs pair_line call_of call_line deliver_line line_by_words read_line address_text place_of datagram_text datagrams_text event_text paired event_at route played_line network_from printed_after pieces_of played_from played two_blocks repeated_block two_blocks_printed repeated_block_printed
repeated_block-played = refl

-- sequence numbers go on from 0 after the greatest one, in packets and in the range of a NAK
wrapped : List ℕ
wrapped =
    line (codes "pair stream a b 1 2147483647 4")
    ++ line (codes "a send 0 010203")
    ++ line (codes "a pack 0")
    ++ line (codes "a pack 0")
    ++ line (codes "a pack 0")
    ++ line (codes "deliver 2 100")

wrapped_printed : List ℕ
wrapped_printed =
    line (codes "pair a 1 b 2")
    ++ line (codes "a send 3")
    ++ line (codes "a pack data")
    ++ line (codes "datagram 0 10.0.0.1:9000 10.0.0.2:9000 7fffffff80000001000000000000000201")
    ++ line (codes "a pack data")
    ++ line (codes "datagram 1 10.0.0.1:9000 10.0.0.2:9000 0000000000000001000000000000000202")
    ++ line (codes "a pack data")
    ++ line (codes "datagram 2 10.0.0.1:9000 10.0.0.2:9000 0000000140000001000000000000000203")
    ++ line (codes "b arrive placed")
    ++ line (codes "datagram 3 10.0.0.2:9000 10.0.0.1:9000 80030000000000000000006400000001ffffffff00000000")

wrapped-played : (played Native wrapped).text ≡ wrapped_printed
unfolding digits line near spelling read target send_answer blocks_of after_send packing placing_of put_block after_place offset_of after_block block_answer step opening after_items words_of number_of pairs_of hex_pairs pair_line call_of call_line deliver_line line_by_words read_line address_text place_of datagram_text datagrams_text event_text paired event_at route played_line network_from printed_after pieces_of played_from played ranges_bytes with_missing without_missing wrapped wrapped_printed
wrapped-played = refl

-- a send takes what fits into two blocks of four bytes, and then nothing
full_buffer : List ℕ
full_buffer =
    line (codes "pair stream a b 4 5 2")
    ++ line (codes "a send 0 00010203040506070809")
    ++ line (codes "a send 0 01")
    ++ line (codes "a send 0 -")

full_buffer_printed : List ℕ
full_buffer_printed =
    line (codes "pair a 1 b 2")
    ++ line (codes "a send 8")
    ++ line (codes "a send again")
    ++ line (codes "a send 0")

full_buffer-played : (played Native full_buffer).text ≡ full_buffer_printed
unfolding digits line send_answer blocks_of after_send step opening after_items words_of number_of pairs_of pair_line call_of call_line line_by_words read_line place_of datagrams_text event_text paired event_at played_line network_from printed_after pieces_of played_from played full_buffer full_buffer_printed
full_buffer-played = refl

-- both blocks arrive, and a tick emits a full ACK of them
acknowledged : List ℕ
acknowledged =
    two_blocks
    ++ line (codes "deliver 0 2000")
    ++ line (codes "deliver 1 3000")
    ++ line (codes "b tick 10000")

acknowledged_printed : List ℕ
acknowledged_printed =
    two_blocks_printed
    ++ line (codes "b arrive placed")
    ++ line (codes "b arrive placed")
    ++ line (codes "b tick")
    ++ line (codes "datagram 2 10.0.0.2:9000 10.0.0.1:9000 8002000000000001000027100000000100000007000186a00000c350000000020000000000000000")

acknowledged-played : (played Native acknowledged).text ≡ acknowledged_printed
unfolding digits line near spelling read target send_answer blocks_of after_send packing placing_of put_block after_place offset_of after_block block_answer step opening after_items words_of number_of pairs_of hex_pairs pair_line call_of call_line deliver_line line_by_words read_line address_text place_of datagram_text datagrams_text event_text paired event_at route played_line network_from printed_after pieces_of played_from played ack_outcome after_ack_timer nak_report after_nak_timer exp_outcome two_blocks acknowledged two_blocks_printed acknowledged_printed
acknowledged-played = refl

-- the ACK is answered by an ACK2, and the time between the two is a sample of the round trip
confirmed : List ℕ
confirmed =
    acknowledged
    ++ line (codes "deliver 2 20000")
    ++ line (codes "deliver 3 30000")
    ++ line (codes "b perf 30000")

confirmed_printed : List ℕ
confirmed_printed =
    acknowledged_printed
    ++ line (codes "a arrive ack")
    ++ line (codes "datagram 3 10.0.0.1:9000 10.0.0.2:9000 800600000000000100004e2000000002")
    ++ line (codes "b arrive ack2")
    ++ line (codes "b perf rtt 90000 var 57500 window 16 period 0 sent 0 resent 0 placed 2 double 0 below 0 above 0 control 1 stale 0 foreign 0 malformed 0 acked 0")

confirmed-played : (played Native confirmed).text ≡ confirmed_printed
unfolding digits line near spelling read_control read target send_answer blocks_of after_send packing placing_of put_block after_place offset_of after_block block_answer step opening after_items words_of number_of pairs_of hex_pairs pair_line call_of call_line deliver_line line_by_words read_line address_text place_of datagram_text datagrams_text event_text perf_text path_text blocks_text others_text paired event_at route played_line network_from printed_after pieces_of played_from played from_offset acking after_ack ack_outcome after_ack_timer nak_report after_nak_timer after_ack2 exp_outcome two_blocks acknowledged confirmed two_blocks_printed acknowledged_printed confirmed_printed
confirmed-played = refl

-- an ACK above all that was sent is stale, and so is one below all that is kept
stale_acks : List ℕ
stale_acks =
    confirmed
    ++ line (codes "raw 21000 10.0.0.2:9000 10.0.0.1:9000 8002000000000000000052080000000100000009")
    ++ line (codes "raw 21000 10.0.0.2:9000 10.0.0.1:9000 8002000000000000000052080000000100000005")

stale_acks_printed : List ℕ
stale_acks_printed =
    confirmed_printed
    ++ line (codes "a arrive stale")
    ++ line (codes "a arrive stale")

stale_acks-played : (played Native stale_acks).text ≡ stale_acks_printed
unfolding digits line near spelling read_control read target send_answer blocks_of after_send packing placing_of put_block after_place offset_of after_block block_answer step opening after_items words_of number_of pairs_of hex_pairs pair_line call_of call_line deliver_line raw_line line_by_words read_line address_text bytes_of_v4 addr_of place_of datagram_text datagrams_text event_text perf_text path_text blocks_text others_text paired event_at route played_line network_from printed_after pieces_of played_from played from_offset acking after_ack ack_outcome after_ack_timer nak_report after_nak_timer after_ack2 exp_outcome two_blocks acknowledged confirmed stale_acks two_blocks_printed acknowledged_printed confirmed_printed stale_acks_printed
stale_acks-played = refl

-- slow start is over, so packets leave one period apart, and no more of them than the flow window
paced : List ℕ
paced =
    confirmed
    ++ line (codes "a send 21000 01")
    ++ line (codes "a send 21000 02")
    ++ line (codes "a pack 21000")
    ++ line (codes "a pack 21000")
    ++ line (codes "a pack 27112")
    ++ line (codes "a send 27112 03")
    ++ line (codes "a pack 33224")

paced_printed : List ℕ
paced_printed =
    confirmed_printed
    ++ line (codes "a send 1")
    ++ line (codes "a send 1")
    ++ line (codes "a pack data")
    ++ line (codes "datagram 4 10.0.0.1:9000 10.0.0.2:9000 00000007c0000002000052080000000201")
    ++ line (codes "a pack notyet 27112")
    ++ line (codes "a pack data")
    ++ line (codes "datagram 5 10.0.0.1:9000 10.0.0.2:9000 00000008c0000003000069e80000000202")
    ++ line (codes "a send 1")
    ++ line (codes "a pack nothing")

paced-played : (played Native paced).text ≡ paced_printed
unfolding digits line near spelling read_control read target send_answer blocks_of after_send packing placing_of put_block after_place offset_of after_block block_answer step opening after_items words_of number_of pairs_of hex_pairs pair_line call_of call_line deliver_line line_by_words read_line address_text place_of datagram_text datagrams_text event_text perf_text path_text blocks_text others_text paired event_at route played_line network_from printed_after pieces_of played_from played from_offset acking after_ack ack_outcome after_ack_timer nak_report after_nak_timer after_ack2 exp_outcome two_blocks acknowledged confirmed paced two_blocks_printed acknowledged_printed confirmed_printed paced_printed
paced-played = refl

-- a keep-alive is heard with bytes behind it too, and a short datagram is dropped
alive : List ℕ
alive =
    two_blocks
    ++ line (codes "raw 2000 10.0.0.1:9000 10.0.0.2:9000 80010000000000000000000000000002")
    ++ line (codes "raw 2000 10.0.0.1:9000 10.0.0.2:9000 8001000000000000000000000000000200000000")
    ++ line (codes "raw 2000 10.0.0.1:9000 10.0.0.2:9000 800100000000000000000000000000")

alive_printed : List ℕ
alive_printed =
    two_blocks_printed
    ++ line (codes "b arrive alive")
    ++ line (codes "b arrive alive")
    ++ line (codes "dropped short")

alive-played : (played Native alive).text ≡ alive_printed
unfolding digits line spelling read_control read target send_answer blocks_of after_send packing step opening after_items words_of number_of pairs_of hex_pairs pair_line call_of call_line raw_line line_by_words read_line address_text bytes_of_v4 addr_of place_of datagram_text datagrams_text event_text paired event_at route played_line network_from printed_after pieces_of played_from played two_blocks alive two_blocks_printed alive_printed
alive-played = refl

-- a socket that closes tells its peer, which still gives what arrived before, and then nothing
closed : List ℕ
closed =
    line (codes "pair stream a b 4 5 4")
    ++ line (codes "a send 0 010203")
    ++ line (codes "a pack 0")
    ++ line (codes "deliver 0 0")
    ++ line (codes "a close 1000")
    ++ line (codes "a tick 1000")
    ++ line (codes "deliver 1 2000")
    ++ line (codes "b recv 3000 10")
    ++ line (codes "b recv 3000 10")

closed_printed : List ℕ
closed_printed =
    line (codes "pair a 1 b 2")
    ++ line (codes "a send 3")
    ++ line (codes "a pack data")
    ++ line (codes "datagram 0 10.0.0.1:9000 10.0.0.2:9000 00000005c00000010000000000000002010203")
    ++ line (codes "b arrive placed")
    ++ line (codes "a close")
    ++ line (codes "a tick")
    ++ line (codes "datagram 1 10.0.0.1:9000 10.0.0.2:9000 8005000000000000000003e800000002")
    ++ line (codes "b arrive shutdown")
    ++ line (codes "b recv 010203")
    ++ line (codes "b recv refused 2001 shutdown")

closed-played : (played Native closed).text ≡ closed_printed
unfolding digits line near spelling read_control read target send_answer blocks_of after_send packing placing_of put_block after_place bytes_from beginning offset_of after_block block_answer step opening after_items words_of number_of pairs_of hex_pairs pair_line call_of call_line deliver_line line_by_words read_line address_text place_of datagram_text datagrams_text event_text paired event_at route played_line network_from printed_after pieces_of played_from played ack_outcome after_ack_timer nak_report after_nak_timer exp_outcome closed closed_printed
closed-played = refl

-- each time that the EXP timer fires its interval is longer, and the seventeenth time breaks the connection
silent : List ℕ
silent =
    line (codes "pair stream a b 4 5 4")
    ++ line (codes "a tick 500000")
    ++ line (codes "a tick 1420000")
    ++ line (codes "a tick 2800000")
    ++ line (codes "a tick 4640000")
    ++ line (codes "a tick 6940000")
    ++ line (codes "a tick 9700000")
    ++ line (codes "a tick 12920000")
    ++ line (codes "a tick 16600000")
    ++ line (codes "a tick 20740000")
    ++ line (codes "a tick 25340000")
    ++ line (codes "a tick 30400000")
    ++ line (codes "a tick 35920000")
    ++ line (codes "a tick 41900000")
    ++ line (codes "a tick 48340000")
    ++ line (codes "a tick 55240000")
    ++ line (codes "a tick 62600000")
    ++ line (codes "a tick 70419999")
    ++ line (codes "a tick 70420000")
    ++ line (codes "a recv 70420000 1")

silent_printed : List ℕ
silent_printed =
    line (codes "pair a 1 b 2")
    ++ line (codes "a tick")
    ++ line (codes "datagram 0 10.0.0.1:9000 10.0.0.2:9000 80010000000000000007a12000000002")
    ++ line (codes "a tick")
    ++ line (codes "datagram 1 10.0.0.1:9000 10.0.0.2:9000 80010000000000000015aae000000002")
    ++ line (codes "a tick")
    ++ line (codes "datagram 2 10.0.0.1:9000 10.0.0.2:9000 8001000000000000002ab98000000002")
    ++ line (codes "a tick")
    ++ line (codes "datagram 3 10.0.0.1:9000 10.0.0.2:9000 80010000000000000046cd0000000002")
    ++ line (codes "a tick")
    ++ line (codes "datagram 4 10.0.0.1:9000 10.0.0.2:9000 80010000000000000069e56000000002")
    ++ line (codes "a tick")
    ++ line (codes "datagram 5 10.0.0.1:9000 10.0.0.2:9000 8001000000000000009402a000000002")
    ++ line (codes "a tick")
    ++ line (codes "datagram 6 10.0.0.1:9000 10.0.0.2:9000 800100000000000000c524c000000002")
    ++ line (codes "a tick")
    ++ line (codes "datagram 7 10.0.0.1:9000 10.0.0.2:9000 800100000000000000fd4bc000000002")
    ++ line (codes "a tick")
    ++ line (codes "datagram 8 10.0.0.1:9000 10.0.0.2:9000 8001000000000000013c77a000000002")
    ++ line (codes "a tick")
    ++ line (codes "datagram 9 10.0.0.1:9000 10.0.0.2:9000 80010000000000000182a86000000002")
    ++ line (codes "a tick")
    ++ line (codes "datagram 10 10.0.0.1:9000 10.0.0.2:9000 800100000000000001cfde0000000002")
    ++ line (codes "a tick")
    ++ line (codes "datagram 11 10.0.0.1:9000 10.0.0.2:9000 80010000000000000224188000000002")
    ++ line (codes "a tick")
    ++ line (codes "datagram 12 10.0.0.1:9000 10.0.0.2:9000 8001000000000000027f57e000000002")
    ++ line (codes "a tick")
    ++ line (codes "datagram 13 10.0.0.1:9000 10.0.0.2:9000 800100000000000002e19c2000000002")
    ++ line (codes "a tick")
    ++ line (codes "datagram 14 10.0.0.1:9000 10.0.0.2:9000 8001000000000000034ae54000000002")
    ++ line (codes "a tick")
    ++ line (codes "datagram 15 10.0.0.1:9000 10.0.0.2:9000 800100000000000003bb334000000002")
    ++ line (codes "a tick")
    ++ line (codes "a tick")
    ++ line (codes "a recv refused 2001 expired")

silent-played : (played Native silent).text ≡ silent_printed
unfolding digits line spelling bytes_from beginning step opening after_items words_of number_of hex_pairs pair_line call_of call_line line_by_words read_line address_text place_of datagram_text datagrams_text event_text paired event_at played_line network_from printed_after pieces_of played_from played ack_outcome after_ack_timer nak_report after_nak_timer exp_outcome report fitting_ranges after_report losses.ranges_of silent silent_printed
silent-played = refl

-- a line with a call that no socket has ends the script
jump : List ℕ
jump =
    line (codes "pair stream a b 4 5 4")
    ++ line (codes "a jump 5")

jump_printed : List ℕ
jump_printed =
    line (codes "pair a 1 b 2")
    ++ line (codes "line 2 refused")

jump-played : (played Native jump).text ≡ jump_printed
unfolding digits line step opening after_items words_of number_of pair_line call_of call_line line_by_words read_line place_of datagrams_text event_text paired event_at played_line network_from printed_after pieces_of played_from played jump jump_printed
jump-played = refl

-- and the script as a whole is refused
jump-refused : (played Native jump).refused ≡ true
unfolding digits line step opening after_items words_of number_of pair_line call_of call_line line_by_words read_line place_of datagrams_text event_text paired event_at played_line network_from printed_after pieces_of played_from played jump
jump-refused = refl

-- when the EXP timer has fired, after half a second, the first block is retransmitted
resent : List ℕ
resent =
    two_blocks
    ++ line (codes "a tick 499999")
    ++ line (codes "a pack 499999")
    ++ line (codes "a tick 500000")
    ++ line (codes "a pack 500000")

resent_printed : List ℕ
resent_printed =
    two_blocks_printed
    ++ line (codes "a tick")
    ++ line (codes "a pack nothing")
    ++ line (codes "a tick")
    ++ line (codes "a pack data")
    ++ line (codes "datagram 2 10.0.0.1:9000 10.0.0.2:9000 00000005800000010007a1200000000268656c6c")

resent-played : (played Native resent).text ≡ resent_printed
unfolding digits line spelling send_answer blocks_of after_send packing step opening after_items words_of number_of pairs_of hex_pairs pair_line call_of call_line line_by_words read_line address_text place_of datagram_text datagrams_text event_text paired event_at played_line network_from printed_after pieces_of played_from played with_range after_timeout ack_outcome after_ack_timer nak_report after_nak_timer exp_outcome report fitting_ranges after_report losses.ranges_of two_blocks resent two_blocks_printed resent_printed
resent-played = refl

-- datagrams of no known type, to no socket, from a foreign address and to no host
astray : List ℕ
astray =
    two_blocks
    ++ line (codes "raw 2000 10.0.0.1:9000 10.0.0.2:9000 80040000000000000000000000000002")
    ++ line (codes "raw 2000 10.0.0.1:9000 10.0.0.2:9000 80010000000000000000000000000007")
    ++ line (codes "raw 2000 10.0.0.3:9000 10.0.0.2:9000 80010000000000000000000000000002")
    ++ line (codes "raw 2000 10.0.0.1:9000 10.0.0.3:9000 80010000000000000000000000000002")

astray_printed : List ℕ
astray_printed =
    two_blocks_printed
    ++ line (codes "b arrive malformed 2")
    ++ line (codes "dropped id")
    ++ line (codes "b arrive foreign")
    ++ line (codes "dropped host")

astray-played : (played Native astray).text ≡ astray_printed
unfolding digits line spelling read_control read target send_answer blocks_of after_send packing step opening after_items words_of number_of pairs_of hex_pairs pair_line call_of call_line raw_line line_by_words read_line address_text bytes_of_v4 addr_of place_of datagram_text datagrams_text event_text paired event_at route played_line network_from printed_after pieces_of played_from played two_blocks astray two_blocks_printed astray_printed
astray-played = refl

-- bad lengths, offsets out of reach, and what nobody waits for are told apart, and none is placed
hostile : List ℕ
hostile =
    two_blocks
    ++ line (codes "raw 2000 10.0.0.1:9000 10.0.0.2:9000 00000005800000010000000000000002")
    ++ line (codes "raw 2000 10.0.0.1:9000 10.0.0.2:9000 000000058000000100000000000000020102030405")
    ++ line (codes "raw 2000 10.0.0.1:9000 10.0.0.2:9000 00000009c0000001000000000000000201")
    ++ line (codes "raw 2000 10.0.0.1:9000 10.0.0.2:9000 00000004c0000001000000000000000201")
    ++ line (codes "raw 2000 10.0.0.1:9000 10.0.0.2:9000 800700000000000100000000000000020000000500000006")
    ++ line (codes "raw 2000 10.0.0.1:9000 10.0.0.2:9000 ffff0000000000000000000000000002")
    ++ line (codes "raw 2000 10.0.0.1:9000 10.0.0.2:9000 80060000000000090000000000000002")
    ++ line (codes "raw 2000 10.0.0.1:9000 10.0.0.2:9000 8000000000000000000000000000000200000004000000010000000500000030000000040000000100000009000000000a000009000000000000000000000000")

hostile_printed : List ℕ
hostile_printed =
    two_blocks_printed
    ++ line (codes "b arrive badlength")
    ++ line (codes "b arrive badlength")
    ++ line (codes "b arrive above")
    ++ line (codes "b arrive above")
    ++ line (codes "b arrive stale")
    ++ line (codes "b arrive malformed 2")
    ++ line (codes "b arrive stale")
    ++ line (codes "b arrive stale")

hostile-played : (played Native hostile).text ≡ hostile_printed
unfolding digits line near spelling read_control read target send_answer blocks_of after_send packing placing_of offset_of after_block block_answer step opening after_items words_of number_of pairs_of hex_pairs pair_line call_of call_line raw_line line_by_words read_line address_text bytes_of_v4 addr_of place_of datagram_text datagrams_text event_text paired event_at route played_line network_from printed_after pieces_of played_from played acking two_blocks hostile two_blocks_printed hostile_printed
hostile-played = refl

-- of these NAKs and ACKs one alone is heard: the NAK of the two blocks that were sent
hostile_reports : List ℕ
hostile_reports =
    two_blocks
    ++ line (codes "raw 2000 10.0.0.2:9000 10.0.0.1:9000 800300000000000000000000000000018000000500000007")
    ++ line (codes "raw 2000 10.0.0.2:9000 10.0.0.1:9000 800300000000000000000000000000018000000600000005")
    ++ line (codes "raw 2000 10.0.0.2:9000 10.0.0.1:9000 80020000000000010000000000000001000000")
    ++ line (codes "raw 2000 10.0.0.2:9000 10.0.0.1:9000 800300000000000000000000000000018000000500000006")

hostile_reports_printed : List ℕ
hostile_reports_printed =
    two_blocks_printed
    ++ line (codes "a arrive stale")
    ++ line (codes "a arrive malformed 4")
    ++ line (codes "a arrive malformed 6")
    ++ line (codes "a arrive nak")

hostile_reports-played : (played Native hostile_reports).text ≡ hostile_reports_printed
unfolding digits line near spelling read_control read target send_answer blocks_of after_send packing step opening after_items words_of number_of pairs_of hex_pairs pair_line call_of call_line raw_line line_by_words read_line address_text bytes_of_v4 addr_of place_of datagram_text datagrams_text event_text paired event_at route played_line network_from printed_after pieces_of played_from played with_range acking with_ranges entering after_nak ranges_from wire.words_of wire.ranges_of two_blocks hostile_reports two_blocks_printed hostile_reports_printed
hostile_reports-played = refl

-- directions that begin just below offset 2^31 go on across it
late_start : List ℕ
late_start =
    line (codes "pair stream a b 4 5 4 2147483647")
    ++ line (codes "a send 1000 68656c6c6f")
    ++ line (codes "a pack 1000")
    ++ line (codes "a pack 1000")
    ++ line (codes "deliver 1 2000")
    ++ line (codes "deliver 0 3000")
    ++ line (codes "b recv 3000 10")
    ++ line (codes "b tick 10000")

late_start_printed : List ℕ
late_start_printed =
    line (codes "pair a 1 b 2")
    ++ line (codes "a send 5")
    ++ line (codes "a pack data")
    ++ line (codes "datagram 0 10.0.0.1:9000 10.0.0.2:9000 0000000480000001000003e80000000268656c6c")
    ++ line (codes "a pack data")
    ++ line (codes "datagram 1 10.0.0.1:9000 10.0.0.2:9000 0000000540000001000003e8000000026f")
    ++ line (codes "b arrive placed")
    ++ line (codes "datagram 2 10.0.0.2:9000 10.0.0.1:9000 8003000000000000000007d00000000100000004")
    ++ line (codes "b arrive placed")
    ++ line (codes "b recv 68656c6c6f")
    ++ line (codes "b tick")
    ++ line (codes "datagram 3 10.0.0.2:9000 10.0.0.1:9000 8002000000000001000027100000000100000006000186a00000c350000000040000000000000000")

late_start-played : (played Native late_start).text ≡ late_start_printed
unfolding digits line near spelling read target send_answer blocks_of after_send packing placing_of put_block after_place bytes_from beginning offset_of after_block block_answer step opening after_items words_of number_of pairs_of hex_pairs pair_line call_of call_line deliver_line line_by_words read_line address_text place_of datagram_text datagrams_text event_text paired event_at route played_line network_from printed_after pieces_of played_from played ack_outcome after_ack_timer nak_report after_nak_timer exp_outcome ranges_bytes with_missing without_missing late_start late_start_printed
late_start-played = refl

-- the sender's acknowledged offset has more than 31 bits then
late_acked : List ℕ
late_acked =
    late_start
    ++ line (codes "deliver 3 20000")
    ++ line (codes "a perf 20000")

late_acked-ends : drop (length (played Native late_acked).text - 17) (played Native late_acked).text ≡ line (codes "acked 2147483649")
unfolding digits line near spelling read_control read target send_answer blocks_of after_send packing placing_of put_block after_place bytes_from beginning offset_of after_block block_answer step opening after_items words_of number_of pairs_of hex_pairs pair_line call_of call_line deliver_line line_by_words read_line address_text place_of datagram_text datagrams_text event_text perf_text path_text blocks_text others_text paired event_at route played_line network_from printed_after pieces_of played_from played from_offset acking after_ack ack_outcome after_ack_timer nak_report after_nak_timer exp_outcome ranges_bytes with_missing without_missing late_start late_acked
late_acked-ends = refl

-- numbers on both sides of the start, up to the one that lies 2^30 off and is that of no offset
near_start : List ℕ
near_start =
    line (codes "pair stream a b 1 0 4 2147483658")
    ++ line (codes "raw 1 10.0.0.1:9000 10.0.0.2:9000 00000009c0000001000000000000000200")
    ++ line (codes "raw 1 10.0.0.1:9000 10.0.0.2:9000 40000009c0000001000000000000000200")
    ++ line (codes "raw 1 10.0.0.1:9000 10.0.0.2:9000 4000000ac0000001000000000000000200")
    ++ line (codes "raw 1 10.0.0.1:9000 10.0.0.2:9000 4000000bc0000001000000000000000200")
    ++ line (codes "raw 1 10.0.0.1:9000 10.0.0.2:9000 0000000ac0000001000000000000000200")

near_start_printed : List ℕ
near_start_printed =
    line (codes "pair a 1 b 2")
    ++ line (codes "b arrive below")
    ++ line (codes "b arrive above")
    ++ line (codes "b arrive above")
    ++ line (codes "b arrive below")
    ++ line (codes "b arrive placed")

near_start-played : (played Native near_start).text ≡ near_start_printed
unfolding digits line near read target placing_of put_block after_place offset_of after_block block_answer step opening after_items words_of number_of pairs_of pair_line raw_line line_by_words read_line bytes_of_v4 addr_of place_of datagrams_text event_text paired event_at route played_line network_from printed_after pieces_of played_from played near_start near_start_printed
near_start-played = refl

-- under the fixed control the packet after a packet pair leaves a tenth of a millisecond later
fixed_rate : List ℕ
fixed_rate =
    line (codes "pair stream a b 4 5 4")
    ++ line (codes "a send 0 0102030405060708")
    ++ line (codes "a pack 0")
    ++ line (codes "a pack 0")
    ++ line (codes "a pack 100")

fixed_rate_printed : List ℕ
fixed_rate_printed =
    line (codes "pair a 1 b 2")
    ++ line (codes "a send 8")
    ++ line (codes "a pack data")
    ++ line (codes "datagram 0 10.0.0.1:9000 10.0.0.2:9000 0000000580000001000000000000000201020304")
    ++ line (codes "a pack notyet 100")
    ++ line (codes "a pack data")
    ++ line (codes "datagram 1 10.0.0.1:9000 10.0.0.2:9000 0000000640000001000000640000000205060708")

fixed_rate-played : (played Fixed fixed_rate).text ≡ fixed_rate_printed
unfolding digits line spelling send_answer blocks_of after_send packing step opening after_items words_of number_of pairs_of hex_pairs pair_line call_of call_line line_by_words read_line address_text place_of datagram_text datagrams_text event_text paired event_at played_line network_from printed_after pieces_of played_from played fixed_rate fixed_rate_printed
fixed_rate-played = refl

-- a keep-alive from another address tells nothing, and once its peer has closed a socket takes no bytes
refused : List ℕ
refused =
    line (codes "pair stream a b 4 5 4")
    ++ line (codes "raw 500 10.0.0.9:1 10.0.0.1:9000 80010000000000000000000000000001")
    ++ line (codes "b close 1000")
    ++ line (codes "b tick 2000")
    ++ line (codes "deliver 0 3000")
    ++ line (codes "a send 4000 68")

refused_printed : List ℕ
refused_printed =
    line (codes "pair a 1 b 2")
    ++ line (codes "a arrive foreign")
    ++ line (codes "b close")
    ++ line (codes "b tick")
    ++ line (codes "datagram 0 10.0.0.2:9000 10.0.0.1:9000 8005000000000000000007d000000001")
    ++ line (codes "a arrive shutdown")
    ++ line (codes "a send refused 2001 shutdown")

refused-played : (played Native refused).text ≡ refused_printed
unfolding digits line spelling read_control read target send_answer blocks_of after_send step opening after_items words_of number_of pairs_of hex_pairs pair_line call_of call_line deliver_line raw_line line_by_words read_line address_text bytes_of_v4 addr_of place_of datagram_text datagrams_text event_text paired event_at route played_line network_from printed_after pieces_of played_from played ack_outcome after_ack_timer nak_report after_nak_timer exp_outcome refused refused_printed
refused-played = refl

-- a block that stays missing is reported again when the NAK timer is due, and not before
reported_again : List ℕ
reported_again =
    two_blocks
    ++ line (codes "deliver 1 2000")
    ++ line (codes "b tick 459999")
    ++ line (codes "b tick 460000")

reported_again_printed : List ℕ
reported_again_printed =
    two_blocks_printed
    ++ line (codes "b arrive placed")
    ++ line (codes "datagram 2 10.0.0.2:9000 10.0.0.1:9000 8003000000000000000007d00000000100000005")
    ++ line (codes "b tick")
    ++ line (codes "b tick")
    ++ line (codes "datagram 3 10.0.0.2:9000 10.0.0.1:9000 8003000000000000000704e00000000100000005")

reported_again-played : (played Native reported_again).text ≡ reported_again_printed
unfolding digits line near spelling read target send_answer blocks_of after_send packing placing_of put_block after_place offset_of after_block block_answer step opening after_items words_of number_of pairs_of hex_pairs pair_line call_of call_line deliver_line line_by_words read_line address_text place_of datagram_text datagrams_text event_text paired event_at route played_line network_from printed_after pieces_of played_from played ack_outcome after_ack_timer nak_report after_nak_timer exp_outcome ranges_bytes with_missing without_missing report fitting_ranges after_report losses.ranges_of two_blocks reported_again two_blocks_printed reported_again_printed
reported_again-played = refl

-- an ACK that no ACK2 answers is emitted again after two round trips, and not before
acknowledged_again : List ℕ
acknowledged_again =
    acknowledged
    ++ line (codes "b tick 150000")
    ++ line (codes "b tick 210000")

acknowledged_again_printed : List ℕ
acknowledged_again_printed =
    acknowledged_printed
    ++ line (codes "b tick")
    ++ line (codes "b tick")
    ++ line (codes "datagram 3 10.0.0.2:9000 10.0.0.1:9000 8002000000000002000334500000000100000007000186a00000c350000000020000000000000000")

acknowledged_again-played : (played Native acknowledged_again).text ≡ acknowledged_again_printed
unfolding digits line near spelling read target send_answer blocks_of after_send packing placing_of put_block after_place offset_of after_block block_answer step opening after_items words_of number_of pairs_of hex_pairs pair_line call_of call_line deliver_line line_by_words read_line address_text place_of datagram_text datagrams_text event_text paired event_at route played_line network_from printed_after pieces_of played_from played ack_outcome after_ack_timer nak_report after_nak_timer exp_outcome two_blocks acknowledged acknowledged_again two_blocks_printed acknowledged_printed acknowledged_again_printed
acknowledged_again-played = refl

-- a NAK ends slow start, its block leaves before all others, and the next one follows after one period
nak_heard : List ℕ
nak_heard =
    two_blocks
    ++ line (codes "deliver 1 2000")
    ++ line (codes "deliver 2 3000")
    ++ line (codes "a pack 3000")
    ++ line (codes "a perf 3000")
    ++ line (codes "a send 3000 01")
    ++ line (codes "a pack 3000")
    ++ line (codes "a pack 9875")

nak_heard_printed : List ℕ
nak_heard_printed =
    two_blocks_printed
    ++ line (codes "b arrive placed")
    ++ line (codes "datagram 2 10.0.0.2:9000 10.0.0.1:9000 8003000000000000000007d00000000100000005")
    ++ line (codes "a arrive nak")
    ++ line (codes "a pack data")
    ++ line (codes "datagram 3 10.0.0.1:9000 10.0.0.2:9000 000000058000000100000bb80000000268656c6c")
    ++ line (codes "a perf rtt 100000 var 50000 window 16 period 6875000 sent 2 resent 1 placed 0 double 0 below 0 above 0 control 1 stale 0 foreign 0 malformed 0 acked 0")
    ++ line (codes "a send 1")
    ++ line (codes "a pack notyet 9875")
    ++ line (codes "a pack data")
    ++ line (codes "datagram 4 10.0.0.1:9000 10.0.0.2:9000 00000007c0000002000026930000000201")

nak_heard-played : (played Native nak_heard).text ≡ nak_heard_printed
unfolding digits line near spelling read_control read target send_answer blocks_of after_send packing placing_of put_block after_place offset_of after_block block_answer step opening after_items words_of number_of pairs_of hex_pairs pair_line call_of call_line deliver_line line_by_words read_line address_text place_of datagram_text datagrams_text event_text perf_text path_text blocks_text others_text paired event_at route played_line network_from printed_after pieces_of played_from played with_range acking with_ranges entering after_nak ranges_bytes ranges_from with_missing without_missing wire.words_of wire.ranges_of two_blocks nak_heard two_blocks_printed nak_heard_printed
nak_heard-played = refl

-- a packet with a number that 16 divides is followed at once, and the one after that not
packet_pair : List ℕ
packet_pair =
    line (codes "pair stream a b 1 16 4")
    ++ line (codes "a send 0 010203")
    ++ line (codes "a pack 0")
    ++ line (codes "a pack 0")
    ++ line (codes "a pack 0")

packet_pair_printed : List ℕ
packet_pair_printed =
    line (codes "pair a 1 b 2")
    ++ line (codes "a send 3")
    ++ line (codes "a pack data")
    ++ line (codes "datagram 0 10.0.0.1:9000 10.0.0.2:9000 0000001080000001000000000000000201")
    ++ line (codes "a pack data")
    ++ line (codes "datagram 1 10.0.0.1:9000 10.0.0.2:9000 0000001100000001000000000000000202")
    ++ line (codes "a pack notyet 100")

packet_pair-played : (played Fixed packet_pair).text ≡ packet_pair_printed
unfolding digits line spelling send_answer blocks_of after_send packing step opening after_items words_of number_of pairs_of hex_pairs pair_line call_of call_line line_by_words read_line address_text place_of datagram_text datagrams_text event_text paired event_at played_line network_from printed_after pieces_of played_from played packet_pair packet_pair_printed
packet_pair-played = refl

-- an ACK offset that an ACK2 has confirmed is not acknowledged again
known : List ℕ
known =
    confirmed
    ++ line (codes "b tick 300000")

known_printed : List ℕ
known_printed =
    confirmed_printed
    ++ line (codes "b tick")

known-played : (played Native known).text ≡ known_printed
unfolding digits line near spelling read_control read target send_answer blocks_of after_send packing placing_of put_block after_place offset_of after_block block_answer step opening after_items words_of number_of pairs_of hex_pairs pair_line call_of call_line deliver_line line_by_words read_line address_text place_of datagram_text datagrams_text event_text perf_text path_text blocks_text others_text paired event_at route played_line network_from printed_after pieces_of played_from played from_offset acking after_ack ack_outcome after_ack_timer nak_report after_nak_timer after_ack2 exp_outcome two_blocks acknowledged confirmed known two_blocks_printed acknowledged_printed confirmed_printed known_printed
known-played = refl

-- ---- numbers

-- among numbers that begin at 5, 9 is that of offset 4
near_first : near 5 0 9 ≡ Some 4
unfolding near
near_first = refl

-- a number just before the first one is that of no offset
near_none : near 5 0 4 ≡ None
unfolding near
near_none = refl

-- a number stands for an offset of more than 31 bits where the connection stands there
near_late : near 5 2147483647 6 ≡ Some 2147483649
unfolding near
near_late = refl

-- ---- loss reports on the wire

-- a NAK with a number, a range of two words, and a number again
nak_spelled : List ℕ
nak_spelled =
    128 ∷ 3 ∷ 0 ∷ 0 ∷ 0 ∷ 0 ∷ 0 ∷ 0 ∷ 0 ∷ 0 ∷ 0 ∷ 0 ∷ 0 ∷ 0 ∷ 0 ∷ 1 ∷ 0 ∷ 0 ∷ 0 ∷ 2 ∷ 128 ∷ 0 ∷ 0 ∷ 6 ∷ 0 ∷ 0 ∷ 0 ∷ 11 ∷ 0 ∷ 0 ∷ 0 ∷ 14 ∷ []

-- its three ranges
nak_ranges : List wire.WireRange
nak_ranges = record { first = 2; last = 2 } ∷ record { first = 6; last = 11 } ∷ record { first = 14; last = 14 } ∷ []

-- it is read as three ranges
nak-read : read nak_spelled ≡ Ok (Nak 0 1 nak_ranges)
unfolding read read_control wire.words_of wire.ranges_of ranges_from nak_spelled nak_ranges
nak-read = refl

-- and they are spelled so
nak-spelled : spelling (Nak 0 1 nak_ranges) ≡ nak_spelled
unfolding spelling ranges_bytes nak_spelled nak_ranges
nak-spelled = refl

-- a range that begins and doesn't end
nak_cut : List ℕ
nak_cut = 128 ∷ 3 ∷ 0 ∷ 0 ∷ 0 ∷ 0 ∷ 0 ∷ 0 ∷ 0 ∷ 0 ∷ 0 ∷ 0 ∷ 0 ∷ 0 ∷ 0 ∷ 1 ∷ 0 ∷ 0 ∷ 0 ∷ 2 ∷ 128 ∷ 0 ∷ 0 ∷ 6 ∷ []

-- it is malformed
nak_cut-read : read nak_cut ≡ Err BadNakRange
unfolding read read_control wire.words_of wire.ranges_of ranges_from nak_cut
nak_cut-read = refl

-- ---- lost packets

-- three packets that are missing from moment 0 on
three_missing : List Missing
three_missing = with_missing 3 5 0 []

-- the three as one range
three_range : List LostRange
three_range = record { first = 3; last = 5 } ∷ []

-- what is missing once they were reported after two round trips
three_reported : List Missing
three_reported = after_report 200 (report 200 100 2 three_missing) three_missing

-- before two round trips have passed nothing is reported again
three-early : report 199 100 2 three_missing ≡ []
unfolding report with_missing losses.ranges_of fitting_ranges three_missing
three-early = refl

-- after two round trips the three are reported as one range
three-due : report 200 100 2 three_missing ≡ three_range
unfolding report with_missing losses.ranges_of fitting_ranges three_missing three_range
three-due = refl

-- after that report three round trips have to pass, not two
reported-early : report 499 100 2 three_reported ≡ []
unfolding report with_missing losses.ranges_of fitting_ranges after_report three_missing three_reported
reported-early = refl

-- after three round trips the range is reported again
reported-due : report 500 100 2 three_reported ≡ three_range
unfolding report with_missing losses.ranges_of fitting_ranges after_report three_missing three_reported three_range
reported-due = refl

-- the offsets of two ranges stand in rising order, whichever range came first
two_ranges : with_range 2 2 (with_range 6 11 []) ≡ 2 ∷ 6 ∷ 7 ∷ 8 ∷ 9 ∷ 10 ∷ 11 ∷ []
unfolding with_range
two_ranges = refl

-- those below an offset leave
two_left : from_offset 10 (6 ∷ 7 ∷ 8 ∷ 9 ∷ 10 ∷ 11 ∷ []) ≡ 10 ∷ 11 ∷ []
unfolding from_offset
two_left = refl

-- adjoining ranges are one
linked : length (losses.ranges_of (with_range 12 14 (with_range 6 11 (with_range 2 2 [])))) ≡ 2
unfolding with_range losses.ranges_of
linked = refl

-- a range that loses its middle is two
unlinked : length (losses.ranges_of (without_range 8 9 (with_range 12 14 (with_range 6 11 (with_range 2 2 []))))) ≡ 3
unfolding with_range without_range losses.ranges_of
unlinked = refl

-- three adjoining or separate ranges, of which the last was reported later
missing_apart : List Missing
missing_apart = with_missing 10 10 7 (with_missing 8 9 0 (with_missing 3 5 0 []))

-- adjoining packets with different reports are two ranges
apart : length (missing_ranges missing_apart) ≡ 3
unfolding with_missing missing_ranges missing_apart
apart = refl

-- a range of missing packets that loses its middle is two
apart-more : length (missing_ranges (without_missing 4 4 missing_apart)) ≡ 4
unfolding with_missing without_missing missing_ranges missing_apart
apart-more = refl

-- three ranges of missing packets
three_gaps : List Missing
three_gaps = with_missing 11 11 0 (with_missing 8 9 0 (with_missing 3 5 0 []))

-- the first range that doesn't fit ends a report, whatever would fit after it
gaps-cut : report 200 100 3 three_gaps ≡ three_range
unfolding report with_missing losses.ranges_of fitting_ranges three_gaps three_range
gaps-cut = refl

-- the greatest wait stays
longest-wait : reported_at 5 (record { offset = 1; reported = 0; wait = 4294967295 }) ≡ record { offset = 1; reported = 5; wait = 4294967295 }
longest-wait = refl

-- ---- round trips and samples

-- a sample of 20 milliseconds counts an eighth, and how far it lies off a quarter
one_sample : after_sample unmeasured 20000 ≡ record { rtt = 90000; var = 57500 }
one_sample = refl

-- a sample above a minute counts as a minute
longest_sample : after_sample unmeasured 70000000 ≡ record { rtt = 7587500; var = 15012500 }
longest_sample = refl

-- samples with so many of this one after them
with_samples : ℕ → ℕ → List ℕ → List ℕ
with_samples zero sample samples = samples
with_samples (suc more) sample samples = with_samples more sample (with_sample samples sample)

-- sixteen equal samples are a speed
even-speed : speed_of (with_samples 16 100 []) ≡ 10000
unfolding with_samples in_order put_in_order
even-speed = refl

-- the seven samples far from the median don't count
mixed-speed : speed_of (with_samples 7 10000 (with_samples 9 100 [])) ≡ 10000
unfolding with_samples in_order put_in_order
mixed-speed = refl

-- where no more than half of the samples are near the median there is no speed
torn-speed : speed_of (with_samples 8 10000 (with_samples 8 100 [])) ≡ 0
unfolding with_samples in_order put_in_order
torn-speed = refl

-- fifteen samples are too few
short-speed : speed_of (with_samples 15 100 []) ≡ 0
unfolding with_samples in_order put_in_order
short-speed = refl

-- a link with 50 microseconds between the packets of a pair carries 20,000 packets a second
pair-capacity : capacity_of (with_samples 16 50 []) ≡ 20000
unfolding with_samples in_order put_in_order
pair-capacity = refl

-- the first measured rate counts alone
first_average : averaged 0 800 ≡ 800
first_average = refl

-- a rate of 0 changes nothing
no_average : averaged 800 0 ≡ 800
no_average = refl

-- any other rate counts an eighth
next_average : averaged 800 1600 ≡ 900
next_average = refl

-- a light ACK takes what it acknowledges from the flow window
flow-falls : flow_after 64 10 (Light 10) ≡ 54
flow-falls = refl

-- two packets of it stay
flow-stays : flow_after 4 3 (Light 3) ≡ 2
flow-stays = refl

-- another ACK says what the flow window is, up to 65,536
flow-wide : flow_after 4 3 (Buffer 3 100000 50000 100000) ≡ 65536
flow-wide = refl

-- it is no less than 2
flow-narrow : flow_after 4 3 (Full 3 100000 50000 0 0 0) ≡ 2
flow-narrow = refl

-- full ACKs are counted from 1
ack-first : number_after None ≡ 1
ack-first = refl

-- after the greatest number of an ACK comes 1 again
ack-again : number_after (Some (record { number = 2147483647; offset = 7; moment = 0 })) ≡ 1
ack-again = refl

-- after the greatest number of a message comes 1 again
message-again : message_after 536870911 ≡ 1
message-again = refl

-- ---- the native control

-- a link with room for 20,000 packets a second, of which 10,000 are used, is given one packet more each SYN

-- ten powers are enough for these 120,000,000 bits a second
ten_powers : (more : ℕ) → first_power (suc (suc (suc (suc (suc (suc (suc (suc (suc (suc more)))))))))) 1 120000000 ≡ 1000000000
ten_powers more = refl

-- the least power of ten that reaches this
power-spare : power_of_ten 120000000 ≡ 1000000000
unfolding power_of_ten
power-spare = ten_powers 119999990

-- a link with room for 20,000 packets a second, of which 10,000 are used, is given one packet more each SYN
increase-spare : increase_of 20000 100000 1500 ≡ 1000000
increase-spare = ap (λ p. max (3 * p / (2 * 1500)) 666) power-spare

-- with one packet more each SYN the period is this much shorter
increase-shorter : shorter_of 100000 1000000 ≡ 99009
increase-shorter = refl

-- a link without room is given the least increase
increase-least : increase_of 10000 100000 1500 ≡ 666
unfolding power_of_ten
increase-least = refl

-- the native control past slow start
ended_by_ack : Pacing
ended_by_ack = record { packet_bytes = 48; flow = 4; slow = false; window = 18; period_nanos = 6111111; last_dec = None }

-- an ACK that reaches the flow window ends slow start, with a period of one window a round trip
ack-ends : native.after_ack (native.started 48 4) (record { newly = 2; rate = 0; capacity = 0; rtt = 100000 }) ≡ ended_by_ack
unfolding ended_by_ack
ack-ends = refl

-- the native control past slow start, with this window, period and last decrease
paced_at : ℕ → ℕ → Option ℕ → Pacing
paced_at window period last_dec =
    record { packet_bytes = 1500; flow = 64; slow = false; window = window; period_nanos = period; last_dec = last_dec }

-- after slow start the window follows the receiving rate, and the period becomes shorter
ack-paces :
    native.after_ack (paced_at 16 100000 None) (record { newly = 1; rate = 5000; capacity = 20000; rtt = 100000 })
    ≡ paced_at 566 99009 None
unfolding paced_at
ack-paces = ap (λ p. paced_at 566 (shorter_of 100000 (max (3 * p / (2 * 1500)) 666)) None) power-spare

-- what is told of a loss before a rate was measured
unmeasured_loss : Feedback
unmeasured_loss = record { newly = 0; rate = 0; capacity = 0; rtt = 100000 }

-- a NAK makes the period longer by an eighth, rounded up
nak-slows : native.after_nak (paced_at 16 1125 None) 3 10 unmeasured_loss ≡ paced_at 16 1266 (Some 9)
unfolding paced_at unmeasured_loss
nak-slows = refl

-- a NAK of packets sent before the last decrease changes nothing
nak-leaves : native.after_nak (paced_at 16 1266 (Some 9)) 9 12 unmeasured_loss ≡ paced_at 16 1266 (Some 9)
unfolding paced_at unmeasured_loss
nak-leaves = refl

-- a timeout ends slow start too, with a period of one window a round trip
timeout-ends :
    native.after_timeout (native.started 1500 64) unmeasured_loss ≡ paced_at 16 6875000 None
unfolding paced_at unmeasured_loss
timeout-ends = refl

-- after slow start a timeout is nothing
timeout-leaves : native.after_timeout (paced_at 16 1266 (Some 9)) unmeasured_loss ≡ paced_at 16 1266 (Some 9)
unfolding paced_at unmeasured_loss
timeout-leaves = refl

-- ---- the additive control

-- what is told of this many acknowledged packets
told : ℕ → Feedback
told newly = record { newly = newly; rate = 0; capacity = 0; rtt = 100000 }

-- an ACK
aimd_first : List Call
aimd_first = OnAck (told 4) ∷ []

-- and a NAK
aimd_cut : List Call
aimd_cut = aimd_first ++ OnNak 10 36 (told 0) ∷ []

-- and one of the same flight
aimd_same : List Call
aimd_same = aimd_cut ++ OnNak 35 40 (told 0) ∷ []

-- and an ACK of two windows and a half
aimd_grown : List Call
aimd_grown = aimd_same ++ OnAck (told 25) ∷ []

-- and a timeout
aimd_timed : List Call
aimd_timed = aimd_grown ++ OnTimeout (told 0) ∷ []

-- the window grows by what was acknowledged
aimd_first-window : (aimd_after aimd_first).window ≡ 20
unfolding told aimd_first
aimd_first-window = refl

-- a NAK halves it
aimd_cut-window : (aimd_after aimd_cut).window ≡ 10
unfolding told aimd_first aimd_cut
aimd_cut-window = refl

-- a NAK of the same flight leaves it
aimd_same-window : (aimd_after aimd_same).window ≡ 10
unfolding told aimd_first aimd_cut aimd_same
aimd_same-window = refl

-- from the threshold on it grows by one packet a window
aimd_grown-window : (aimd_after aimd_grown).window ≡ 12
unfolding told aimd_first aimd_cut aimd_same aimd_grown
aimd_grown-window = refl

-- what is left of the acknowledged packets counts later
aimd_grown-rest : (aimd_after aimd_grown).rest ≡ 5
unfolding told aimd_first aimd_cut aimd_same aimd_grown
aimd_grown-rest = refl

-- a timeout leaves two packets
aimd_timed-window : (aimd_after aimd_timed).window ≡ 2
unfolding told aimd_first aimd_cut aimd_same aimd_grown aimd_timed
aimd_timed-window = refl

-- it sets the threshold to half of the window
aimd_timed-threshold : (aimd_after aimd_timed).threshold ≡ 6
unfolding told aimd_first aimd_cut aimd_same aimd_grown aimd_timed
aimd_timed-threshold = refl

-- so many more ACKs of three packets
aimd_again : ℕ → List Call
aimd_again zero = aimd_timed
aimd_again (suc more) = aimd_again more ++ OnAck (told 3) ∷ []

-- below the threshold the window grows by what was acknowledged
aimd_again-one : (aimd_after (aimd_again 1)).window ≡ 5
unfolding told aimd_first aimd_cut aimd_same aimd_grown aimd_timed aimd_again
aimd_again-one = refl

-- so it does once more, beyond the threshold
aimd_again-two : (aimd_after (aimd_again 2)).window ≡ 8
unfolding told aimd_first aimd_cut aimd_same aimd_grown aimd_timed aimd_again
aimd_again-two = refl

-- from there on three packets are too few for a further one
aimd_again-three : (aimd_after (aimd_again 3)).window ≡ 8
unfolding told aimd_first aimd_cut aimd_same aimd_grown aimd_timed aimd_again
aimd_again-three = refl

-- ---- a socket

-- a stream socket with 128 blocks of one byte each way
small_config : Config
small_config = record { kind = Stream; payload = 1; snd_blocks = 128; rcv_blocks = 128 }

-- the peer at the other host
small_peer : Peer
small_peer = record { addr = first_host; id = 1; isn = 0; payload = 1; flow = 128 }

-- a socket with this peer
small : State Pacing
small = opening native 2 small_config small_peer 0 0

-- the arrival of the block with this number
arrival_of : ℕ → Event
arrival_of number =
    event (number + 1)
    (Arrive first_host (spelling (Block number (record { first = true; last = true; order = false; message = 1 }) 0 2 (0 ∷ []))))

-- the socket once this many blocks have arrived, one after the other
filled : ℕ → State Pacing
filled zero = small
filled (suc count) = (step native (filled count) (arrival_of count)).after

-- the 64th block is answered by a light ACK
light-ack : outs_of (step native (filled 63) (arrival_of 63)) ≡ record {
  addr = first_host;
  bytes = 128 ∷ 2 ∷ 0 ∷ 0 ∷ 0 ∷ 0 ∷ 0 ∷ 0 ∷ 0 ∷ 0 ∷ 0 ∷ 64 ∷ 0 ∷ 0 ∷ 0 ∷ 1 ∷ 0 ∷ 0 ∷ 0 ∷ 64 ∷ [];
} ∷ []
unfolding opening step read spelling near placing_of put_block after_place offset_of after_block block_answer without_missing with_missing arrival_of filled small small_config small_peer
light-ack = refl

-- it is placed, as every one before it
light-placed : (step native (filled 63) (arrival_of 63)).reply ≡ DidHear heard.Placed
unfolding opening step read spelling near placing_of put_block after_place offset_of after_block block_answer without_missing with_missing arrival_of filled small small_config small_peer
light-placed = refl

-- the 63rd block is answered by nothing
no-light-ack : outs_of (step native (filled 62) (arrival_of 62)) ≡ []
unfolding opening step read spelling near placing_of put_block after_place offset_of after_block block_answer without_missing with_missing arrival_of filled small small_config small_peer
no-light-ack = refl

-- before the EXP timer has fired its interval is half a second
exp-first : exp_interval small ≡ 500000
unfolding opening small small_config small_peer
exp-first = refl

-- after it has fired once its interval is two units
exp-second : exp_interval (record small { exp_count = 2 }) ≡ 920000
unfolding opening small small_config small_peer
exp-second = refl

-- after it has fired sixteen times its interval is seventeen units
exp-last : exp_interval (record small { exp_count = 17 }) ≡ 7820000
unfolding opening small small_config small_peer
exp-last = refl

-- before its moment the timer isn't due
exp-early : exp_outcome (record small { last = 499999 }) ≡ exp.NotDue
unfolding opening exp_outcome small small_config small_peer
exp-early = refl

-- at its moment it keeps the connection alive
exp-due : exp_outcome (record small { last = 500000 }) ≡ exp.KeepsAlive
unfolding opening exp_outcome small small_config small_peer
exp-due = refl

-- the seventeenth time it breaks the connection
exp-breaks : exp_outcome (record small { last = 70420000; exp_from = 62600000; exp_count = 17 }) ≡ exp.Breaks
unfolding opening exp_outcome small small_config small_peer
exp-breaks = refl

-- what is in flight then counts as lost
exp-loses : exp_outcome (record small { last = 500000; sending = record (small.sending) { next = 1 } }) ≡ exp.LosesAll
unfolding opening exp_outcome small small_config small_peer
exp-loses = refl

-- a socket on a fast path that heard of its peer at this moment
fast : ℕ → State Pacing
fast heard = record small { rtt = record { rtt = 0; var = 0 }; last = 9000000; heard = heard; exp_from = 8500000; exp_count = 17 }

-- the timer waits for three seconds without an arrival, however often it fired
exp-waits : exp_outcome (fast 6000001) ≡ exp.KeepsAlive
unfolding opening exp_outcome fast small small_config small_peer
exp-waits = refl

-- after three seconds it breaks the connection
exp-gives-up : exp_outcome (fast 6000000) ≡ exp.Breaks
unfolding opening exp_outcome fast small small_config small_peer
exp-gives-up = refl

-- before three minutes without an arrival it keeps the connection alive where it has seldom fired
exp-patient : exp_outcome (record small { last = 179999999; exp_from = 179499999 }) ≡ exp.KeepsAlive
unfolding opening exp_outcome small small_config small_peer
exp-patient = refl

-- after three minutes it breaks the connection
exp-longest : exp_outcome (record small { last = 180000000; exp_from = 179500000 }) ≡ exp.Breaks
unfolding opening exp_outcome small small_config small_peer
exp-longest = refl

-- a receiving half that a data packet reached at moment 100
hearing : Receiving
hearing = record (small.receiving) { last_data = Some 100 }

-- the second packet of a packet pair is a sample of the arrival window
pair-arrivals : (measured hearing 130 17).arrivals ≡ 30 ∷ []
unfolding opening hearing small small_config small_peer
pair-arrivals = refl

-- and of the pair window
pair-pairs : (measured hearing 130 17).pairs ≡ 30 ∷ []
unfolding opening hearing small small_config small_peer
pair-pairs = refl

-- any other packet is a sample of the arrival window
other-arrivals : (measured hearing 130 18).arrivals ≡ 30 ∷ []
unfolding opening hearing small small_config small_peer
other-arrivals = refl

-- but of no other
other-pairs : (measured hearing 130 18).pairs ≡ []
unfolding opening hearing small small_config small_peer
other-pairs = refl

-- two of four blocks that were sent are acknowledged
in_flight : Sending Pacing
in_flight = record (small.sending) { blocks = record (small.sending.blocks) { first = 2 }; next = 4 }

-- of a NAK's range what isn't acknowledged enters
nak-enters : entering in_flight (record { first = 0; last = 2 } ∷ []) ≡ record { first = 2; last = 2 } ∷ []
unfolding opening entering near in_flight small small_config small_peer
nak-enters = refl

-- a range of acknowledged blocks doesn't, nor one that ends at a block never sent, nor one that runs backwards
nak-passes :
    entering in_flight (record { first = 0; last = 1 } ∷ record { first = 2; last = 4 } ∷ record { first = 3; last = 2 } ∷ []) ≡ []
unfolding opening entering near in_flight small small_config small_peer
nak-passes = refl

-- a new socket has something to do when its ACK timer is first due
next-timer : next_moment native small ≡ Some 10000
unfolding opening next_moment pack_moment small small_config small_peer
next-timer = refl

-- a byte that was taken can leave at once
next-block : next_moment native (record small { sending = after_send small.sending (1 ∷ []) }) ≡ Some 0
unfolding opening next_moment pack_moment send_answer after_send blocks_of small small_config small_peer
next-block = refl

-- a closing socket has its shutdown to send
next-closing : next_moment native (record small { last = 77; phase = phase.Closing }) ≡ Some 77
unfolding opening next_moment pack_moment small small_config small_peer
next-closing = refl

-- a closed one has nothing to do
next-closed : next_moment native (record small { phase = phase.Closed }) ≡ None
unfolding opening next_moment pack_moment small small_config small_peer
next-closed = refl

-- a new socket is connected, and takes bytes
ready-new : ready_bits small ≡ 18
unfolding opening ready_bits bytes_from small small_config small_peer
ready-new = refl

-- one that a byte waits in gives bytes too
ready-filled : ready_bits (filled 1) ≡ 19
unfolding opening step read spelling near placing_of put_block after_place offset_of after_block block_answer ready_bits bytes_from arrival_of filled small small_config small_peer
ready-filled = refl

-- one of which the peer has closed still gives them
ready-broken : ready_bits (record (filled 1) { phase = phase.Broken cause.PeerShutdown }) ≡ 5
unfolding opening step read spelling near placing_of put_block after_place offset_of after_block block_answer ready_bits bytes_from arrival_of filled small small_config small_peer
ready-broken = refl

-- a closed one gives none
ready-closed : ready_bits (record (filled 1) { phase = phase.Closed }) ≡ 36
unfolding opening step read spelling near placing_of put_block after_place offset_of after_block block_answer ready_bits bytes_from arrival_of filled small small_config small_peer
ready-closed = refl

-- ---- the last offsets

-- a sending half with room for one block more
late_sending : Sending Pacing
late_sending =
    linked_sending native (idle_sending native (record { kind = Stream; payload = 4; snd_blocks = 8; rcv_blocks = 8 }) (2 ^ 60 - 1)) 0 4 8

-- two blocks
eight_bytes : List ℕ
eight_bytes = 1 ∷ 2 ∷ 3 ∷ 4 ∷ 5 ∷ 6 ∷ 7 ∷ 8 ∷ []

-- a direction carries no block past its limit
late-takes : send_answer late_sending 8 ≡ Ok 4
unfolding send_answer late_sending
late-takes = refl

-- then it takes no byte
late-spent : send_answer (after_send late_sending eight_bytes) 1 ≡ Err no.Spent
unfolding send_answer after_send blocks_of late_sending eight_bytes
late-spent = refl

-- no bytes are still taken
late-empty : send_answer (after_send late_sending eight_bytes) 0 ≡ Ok 0
unfolding send_answer after_send blocks_of late_sending eight_bytes
late-empty = refl

-- ---- addresses

-- a double colon may stand for one group of zeros
v6-eight : is_some (ip_of (codes "1:2:3:4:5:6:7::")) ≡ true
unfolding bytes_of_v4 around_double groups_of_v6 number_of
v6-eight = refl

-- it stands for one group at least
v6-nine : ip_of (codes "1:2:3:4:5:6:7:8::") ≡ None
unfolding bytes_of_v4 around_double groups_of_v6 number_of
v6-nine = refl

-- an address has one double colon at most
v6-twice : ip_of (codes "1::2::3") ≡ None
unfolding bytes_of_v4 around_double groups_of_v6 number_of
v6-twice = refl

-- a dotted tail isn't read
v6-dotted : ip_of (codes "::1.2.3.4") ≡ None
unfolding bytes_of_v4 around_double groups_of_v6 number_of
v6-dotted = refl

-- nor is an empty text
v6-empty : ip_of [] ≡ None
unfolding bytes_of_v4 around_double groups_of_v6 number_of
v6-empty = refl

-- ---- draws

-- the first draw of those that start at 7
first-draw : draw 7 ≡ 1059165278
first-draw = refl

-- ---- handshakes on the wire

-- what a socket that was asked answers
answering : wire.Packet
answering =
    wire.Handshake 3000 2 (record {
      version = 4;
      kind = 1;
      isn = 5;
      packet = 48;
      flow = 4;
      ask = negsuc 0;
      id = 3;
      cookie = 0;
      address = 10 ∷ 0 ∷ 0 ∷ 8 ∷ 0 ∷ 0 ∷ 0 ∷ 0 ∷ 0 ∷ 0 ∷ 0 ∷ 0 ∷ 0 ∷ 0 ∷ 0 ∷ 0 ∷ [];
    })

-- its words: a type that is signed stands in two's complement
answering_spelled : List ℕ
answering_spelled =
    128 ∷ 0 ∷ 0 ∷ 0 ∷ 0 ∷ 0 ∷ 0 ∷ 0 ∷ 0 ∷ 0 ∷ 11 ∷ 184 ∷ 0 ∷ 0 ∷ 0 ∷ 2 ∷ 0 ∷ 0 ∷ 0 ∷ 4 ∷ 0 ∷ 0 ∷ 0 ∷ 1 ∷ 0 ∷ 0 ∷ 0 ∷ 5 ∷ 0 ∷ 0 ∷ 0 ∷ 48
    ∷ 0 ∷ 0 ∷ 0 ∷ 4 ∷ 255 ∷ 255 ∷ 255 ∷ 255 ∷ 0 ∷ 0 ∷ 0 ∷ 3 ∷ 0 ∷ 0 ∷ 0 ∷ 0 ∷ 10 ∷ 0 ∷ 0 ∷ 8 ∷ 0 ∷ 0 ∷ 0 ∷ 0 ∷ 0 ∷ 0 ∷ 0 ∷ 0 ∷ 0 ∷ 0 ∷ 0 ∷ 0 ∷ []

-- it is spelled so
answering-spelled : spelling answering ≡ answering_spelled
unfolding spelling answering answering_spelled
answering-spelled = refl

-- and read back
answering-read : read answering_spelled ≡ Ok answering
unfolding read read_control answering answering_spelled
answering-read = refl

-- ---- messages

-- a message of more blocks than a socket keeps is refused, and one that finds too few free; a stream's call is refused. A
-- message is received once its last block is there, and where there is room for it
whole_message : List ℕ
whole_message =
    line (codes "pair message a b 4 5 2")
    ++ line (codes "a sendmsg 0 - 0 000102030405060708")
    ++ line (codes "a sendmsg 0 - 0 0001020304050607")
    ++ line (codes "a sendmsg 0 - 0 00")
    ++ line (codes "a send 0 01")
    ++ line (codes "a pack 0")
    ++ line (codes "deliver 0 0")
    ++ line (codes "b recvmsg 0 8")
    ++ line (codes "a pack 0")
    ++ line (codes "deliver 1 0")
    ++ line (codes "b recvmsg 0 7")
    ++ line (codes "b recvmsg 0 8")

whole_message_printed : List ℕ
whole_message_printed =
    line (codes "pair a 1 b 2")
    ++ line (codes "a sendmsg refused 5012")
    ++ line (codes "a sendmsg 8")
    ++ line (codes "a sendmsg again")
    ++ line (codes "a send refused 5010")
    ++ line (codes "a pack data")
    ++ line (codes "datagram 0 10.0.0.1:9000 10.0.0.2:9000 0000000580000001000000000000000200010203")
    ++ line (codes "b arrive placed")
    ++ line (codes "b recvmsg again")
    ++ line (codes "a pack data")
    ++ line (codes "datagram 1 10.0.0.1:9000 10.0.0.2:9000 0000000640000001000000000000000204050607")
    ++ line (codes "b arrive placed")
    ++ line (codes "b recvmsg refused 5012")
    ++ line (codes "b recvmsg 0001020304050607")

whole_message-played : (played Native whole_message).text ≡ whole_message_printed
unfolding digits line near spelling read_control read target send_answer message_answer blocks_of after_send_message packing placing_of put_block after_place beginning with_consumed up_to_last message_from offset_of after_block block_answer step opening after_items words_of number_of pairs_of hex_pairs pair_line call_of call_line deliver_line line_by_words read_line address_text place_of datagram_text datagrams_text event_text paired event_at route played_line network_from printed_after pieces_of played_from played whole_message whole_message_printed
whole_message-played = refl

-- a message that expires before its second block has arrived is dropped, and the next one is received
expired_message : List ℕ
expired_message =
    line (codes "pair message a b 4 5 8")
    ++ line (codes "a sendmsg 0 50000 1 000102030405060708090a0b")
    ++ line (codes "a pack 0")
    ++ line (codes "a pack 0")
    ++ line (codes "a pack 0")
    ++ line (codes "deliver 0 1000")
    ++ line (codes "deliver 2 1000")
    ++ line (codes "deliver 3 2000")
    ++ line (codes "a pack 60000")
    ++ line (codes "a sendmsg 60000 - 1 6d32")
    ++ line (codes "a pack 60000")
    ++ line (codes "deliver 4 61000")
    ++ line (codes "deliver 5 61000")
    ++ line (codes "b recvmsg 61000 100")
    ++ line (codes "b recvmsg 61000 100")

expired_message_printed : List ℕ
expired_message_printed =
    line (codes "pair a 1 b 2")
    ++ line (codes "a sendmsg 12")
    ++ line (codes "a pack data")
    ++ line (codes "datagram 0 10.0.0.1:9000 10.0.0.2:9000 00000005a0000001000000000000000200010203")
    ++ line (codes "a pack data")
    ++ line (codes "datagram 1 10.0.0.1:9000 10.0.0.2:9000 0000000620000001000000000000000204050607")
    ++ line (codes "a pack data")
    ++ line (codes "datagram 2 10.0.0.1:9000 10.0.0.2:9000 00000007600000010000000000000002" ++ codes "08090a0b")
    ++ line (codes "b arrive placed")
    ++ line (codes "b arrive placed")
    ++ line (codes "datagram 3 10.0.0.2:9000 10.0.0.1:9000 8003000000000000000003e80000000100000006")
    ++ line (codes "a arrive nak")
    ++ line (codes "a pack drop")
    ++ line (codes "datagram 4 10.0.0.1:9000 10.0.0.2:9000 80070000000000010000ea60000000020000000500000007")
    ++ line (codes "a sendmsg 2")
    ++ line (codes "a pack data")
    ++ line (codes "datagram 5 10.0.0.1:9000 10.0.0.2:9000 00000008e00000020000ea60000000026d32")
    ++ line (codes "b arrive dropped")
    ++ line (codes "b arrive placed")
    ++ line (codes "b recvmsg 6d32")
    ++ line (codes "b recvmsg again")

expired_message-played : (played Native expired_message).text ≡ expired_message_printed
unfolding digits line near spelling read_control read target send_answer message_answer blocks_of after_send_message packing placing_of put_block after_place beginning with_consumed up_to_last message_from offset_of after_block block_answer step opening after_items words_of number_of pairs_of hex_pairs pair_line call_of call_line deliver_line line_by_words read_line address_text place_of datagram_text datagrams_text event_text paired event_at route played_line network_from printed_after pieces_of played_from played drop_range after_drop drop_answer with_missing without_missing without_range with_range with_ranges entering after_nak ranges_bytes ranges_from wire.words_of wire.ranges_of expired_message expired_message_printed
expired_message-played = refl
