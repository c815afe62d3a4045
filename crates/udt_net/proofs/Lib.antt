mod Speeches
